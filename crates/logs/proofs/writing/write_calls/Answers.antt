-- Each turn appends one record more.
use Rattle.std.proofs.Common.{◌≡◌, ℕ, ◌+◌, ◌-◌, ◌<◌, ◌≤◌, true, false, ◌++◌, length, slice_index, vec_items, sym, refl, ap, ◌∙◌, subst, append-nil, arith}
use Rattle.std.specs.ControlFlow.{break_value}
use Rattle.std.specs.Option.{is_some}
use Rattle.std.specs.declared.ops.ControlFlow.{ControlFlow}
use Rattle.std.specs.declared.ops.ControlFlow.TheVariants.{Continue, Break}
use Rattle.calls.specs.Machine.{rules_of}
use Rattle.calls.specs.Rows.{IsRead}
use Rattle.calls.specs.Sessions.{machine_in_session}
use Rattle.calls.proofs.Sessions.{kept_then}
use Rattle.logs.specs.InSessions.{RecordedIn}
use Rattle.logs.specs.Writing.{written_from}
use Rattle.logs.proofs.Recorded.{written_past, written_here}
use Rattle.logs.proofs.writing.write_calls.Goals as goal

-- the log ends, or goes on
ended : (flow : ControlFlow (Unit {0}) (Unit {0})) → is_some (break_value flow) ≡ true → flow ≡ Break tt
ended (Continue x) e = let z : ◌≡◌ {A = ℕ} 0 1 = cc in absurd (omega arith)
ended (Break x) e = refl

goes_on : (flow : ControlFlow (Unit {0}) (Unit {0})) → is_some (break_value flow) ≡ false → flow ≡ Continue tt
goes_on (Continue x) e = refl
goes_on (Break x) e = let z : ◌≡◌ {A = ℕ} 0 1 = cc in absurd (omega arith)

pub loop-number-preserved : goal.loop-number-preserved
loop-number-preserved c =
    let l = c.loop-number in
    let bytes = c.args.bytes.now in
    let system = c.args.session.now.player.system in
    let row = l.number-iterator in
    let to = c.next.new.self.at in
    let n = c.in-Some.number in
    let steps = c.in-Some.ensures.steps in
    let read : IsRead bytes n row.at c.in-Some.call to = subst (λ b. IsRead b n row.at c.in-Some.call to) l.invariant.row steps.1 in
    let on = subst (λ flow. RecordedIn bytes n row.at to flow l.session c.write_call.new.session (vec_items l.log) (vec_items c.write_call.new.log))
    (goes_on c.in_ok-write_call.field-0 (sym c.is_break.ensures ∙ c.if-is_break.false)) (c.in_ok-write_call.ensures.log bytes row.at to read (ap (slice_index bytes) steps.4)) in
    let here = machine_in_session l.session in
    let there = machine_in_session c.write_call.new.session in
    let log = vec_items c.write_call.new.log in
    let within : n < length bytes = omega (arith, row.counted, steps.0, read.there) in
    record {
      written = l.invariant.written
          ∙ ap (λ k. vec_items l.log ++ written_from (rules_of system) bytes (length bytes - k) k row.at here) (sym steps.0)
          ∙ ap (λ w. vec_items l.log ++ w) (written_here bytes n row.at here system l.session.player.system l.invariant.kept.system within)
          ∙ on.written_on (length bytes - (n + 1))
          ∙ ap (λ s. log ++ written_from (rules_of s) bytes (length bytes - (n + 1)) (n + 1) to there) l.invariant.kept.system
          ∙ ap (λ k. log ++ written_from (rules_of system) bytes (length bytes - k) k to there) (sym steps.3);
      kept = kept_then l.invariant.kept c.in_ok-write_call.ensures.kept;
      row = steps.2 ∙ l.invariant.row;
    }

pub returns-in-None-clause-log : goal.returns-in-None-clause-log
returns-in-None-clause-log c =
    let l = c.loop-number in
    let row = l.number-iterator in
    let past = subst (λ b. length b ≤ row.at) l.invariant.row c.in-None.ensures.steps in
    sym (l.invariant.written
    ∙ ap (λ w. vec_items l.log ++ w) (written_past (rules_of c.args.session.now.player.system) c.args.bytes.now row.number row.at (machine_in_session l.session) _ past)
    ∙ append-nil (vec_items l.log))

pub returns-then-is_break-clause-log : goal.returns-then-is_break-clause-log
returns-then-is_break-clause-log c =
    let l = c.loop-number in
    let bytes = c.args.bytes.now in
    let system = c.args.session.now.player.system in
    let row = l.number-iterator in
    let to = c.next.new.self.at in
    let n = c.in-Some.number in
    let steps = c.in-Some.ensures.steps in
    let read : IsRead bytes n row.at c.in-Some.call to = subst (λ b. IsRead b n row.at c.in-Some.call to) l.invariant.row steps.1 in
    let last = subst (λ flow. RecordedIn bytes n row.at to flow l.session c.write_call.new.session (vec_items l.log) (vec_items c.write_call.new.log))
    (ended c.in_ok-write_call.field-0 (sym c.is_break.ensures ∙ c.if-is_break.true)) (c.in_ok-write_call.ensures.log bytes row.at to read (ap (slice_index bytes) steps.4)) in
    let here = machine_in_session l.session in
    let within : n < length bytes = omega (arith, row.counted, steps.0, read.there) in
    last (length bytes - (n + 1)) ∙ sym (l.invariant.written
    ∙ ap (λ k. vec_items l.log ++ written_from (rules_of system) bytes (length bytes - k) k row.at here) (sym steps.0)
    ∙ ap (λ w. vec_items l.log ++ w) (written_here bytes n row.at here system l.session.player.system l.invariant.kept.system within))
