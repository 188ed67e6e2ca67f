-- Each turn tells one call more; the row is over behind the last byte, or stops at a refusal.
use Rattle.std.proofs.Common.{◌≡◌, suc, ◌+◌, ◌-◌, ◌≤◌, length, sym, ap, ◌∙◌, subst, arith, rules}
use Rattle.calls.specs.Calls.{row_from}
use Rattle.calls.specs.Machine.{rules_of}
use Rattle.calls.specs.Rows.{IsRead}
use Rattle.calls.specs.Sessions.{machine_in_session}
use Rattle.calls.specs.Trace.{trace, ended, answered}
use Rattle.calls.proofs.Sessions.{kept_then}
use Rattle.calls.proofs.Traced.{trace_over, told_same, told_more, machine_untouched, told_at}
use Rattle.calls.proofs.session.Session.make_calls.Goals as goal

pub returns-clause-told : goal.returns-clause-told
returns-clause-told c =
    let l = c.loop-number in
    let row = l.number-iterator in
    let past = subst (λ b. length b ≤ row.at) l.invariant.row c.in-None.ensures.steps in
    told_same l.invariant.told ended
    (trace_over (rules_of c.args.self.now.player.system) (machine_in_session l.self) c.args.calls.bytes.now row.number row.at _ past)

pub returns-in-Err-clause-told : goal.returns-in-Err-clause-told
returns-in-Err-clause-told c =
    let l = c.loop-number in
    let bytes = c.args.calls.bytes.now in
    let at = l.number-iterator.at in
    let n = c.in-Some.number in
    let steps = c.in-Some.ensures.steps in
    let read : IsRead bytes n at c.in-Some.call c.next.new.self.at = subst (λ b. IsRead b n at c.in-Some.call c.next.new.self.at) l.invariant.row steps.1 in
    let stops = c.in-Err.ensures.made bytes at c.next.new.self.at read in
    let system = c.args.self.now.player.system in
    let here = machine_in_session l.self in
    let most = length bytes - (n + 1) in
    let left : length bytes - n ≡ suc most = omega (arith, l.number-iterator.counted, steps.0, read.there) in
    let off = ap (λ k. trace (rules_of system) here k (row_from bytes (length bytes - k) k at)) (sym steps.0)
    ∙ ap (λ m. trace (rules_of system) here n (row_from bytes m n at)) left
    ∙ ap (λ s. trace (rules_of s) here n (row_from bytes (suc most) n at)) (sym l.invariant.kept.system)
    ∙ stops.trace_off most in
    told_at (told_same l.invariant.told _ off) (machine_untouched stops.same)

pub loop-number-preserved : goal.loop-number-preserved
loop-number-preserved c =
    let l = c.loop-number in
    let bytes = c.args.calls.bytes.now in
    let at = l.number-iterator.at in
    let to = c.next.new.self.at in
    let n = c.in-Some.number in
    let steps = c.in-Some.ensures.steps in
    let read : IsRead bytes n at c.in-Some.call to = subst (λ b. IsRead b n at c.in-Some.call to) l.invariant.row steps.1 in
    let on = c.in-Ok.ensures.made bytes at to read in
    let system = c.args.self.now.player.system in
    let here = machine_in_session l.self in
    let there = machine_in_session c.make_call.new.self in
    let most = length bytes - (n + 1) in
    let left : length bytes - n ≡ suc most = omega (arith, l.number-iterator.counted, steps.0, read.there) in
    let further = ap (λ k. trace (rules_of system) here k (row_from bytes (length bytes - k) k at)) (sym steps.0)
    ∙ ap (λ m. trace (rules_of system) here n (row_from bytes m n at)) left
    ∙ ap (λ s. trace (rules_of s) here n (row_from bytes (suc most) n at)) (sym l.invariant.kept.system)
    ∙ on.trace_on most
    ∙ ap (λ s. answered c.in-Ok.answer there (trace (rules_of s) there (n + 1) (row_from bytes most (n + 1) to))) l.invariant.kept.system
    ∙ ap (λ k. answered c.in-Ok.answer there (trace (rules_of system) there k (row_from bytes (length bytes - k) k to))) (sym steps.3) in
    record {
      told = told_more l.invariant.told c.in-Ok.answer there _ _ further (search rules);
      kept = kept_then l.invariant.kept c.in-Ok.ensures.kept;
      row = steps.2 ∙ l.invariant.row;
    }
