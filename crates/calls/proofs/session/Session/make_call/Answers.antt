-- One call of a row is what the trace says of it.
use Rattle.std.proofs.Common.{◌≡◌, ℕ, ◌+◌, List, Ok, Err, Result, MatchResult, sym, refl, ap, ◌∙◌, subst}
use Rattle.std.proofs.lemmas.Result.{err_from_is_err_and}
use Rattle.motion.specs.Refusals.{number_of, place_of, told}
use Rattle.motion.specs.declared.refusal.Refusal.{Refusal}
use Rattle.calls.specs.Calls.{row_from}
use Rattle.calls.specs.Machine.{rules_of, obey}
use Rattle.calls.specs.Rows.{IsRead}
use Rattle.calls.specs.Sessions.{GoesOnIn, Kept, ObeyedIn, StopsIn, UntouchedIn, machine_in_session}
use Rattle.calls.specs.Trace.{answered, trace}
use Rattle.calls.specs.declared.answer.Answer.{Answer}
use Rattle.calls.specs.declared.call.Call.{Call}
use Rattle.calls.specs.declared.session.Session.{Session}
use Rattle.calls.proofs.Traced.{trace_fault, trace_refused, trace_answered}
use Rattle.calls.proofs.session.Session.make_call.Goals as goal

-- a call that was read is obeyed, or refused
obeyed : (call : Call) (k : ℕ) (s after : Session) (result : Result Answer Refusal) → Kept s after →
    told result ≡ (obey (rules_of s.player.system) (machine_in_session s) k call).answer → MatchResult result (λ _. ObeyedIn k call s after) (λ _. UntouchedIn s after) →
    (bytes : List ℕ) (at to : ℕ) → IsRead bytes k at (Ok call) to →
    MatchResult result (λ answer. GoesOnIn bytes k at answer to s after) (λ refusal. StopsIn bytes k at refusal s after)
obeyed call k s after (Ok answer) kept said left bytes at to read =
    let rules = rules_of s.player.system in
    let there = machine_in_session after in
    record {
      trace_on = λ most. trace_answered rules (machine_in_session s) bytes k at read.there most call answer there (sym read.call_is) (sym said) left.machine
          ∙ ap (λ n. answered answer there (trace rules there (k + 1) (row_from bytes most (k + 1) n))) (sym read.next_is);
      further = read.further;
      system = kept.system;
      behind = kept.behind;
    }
obeyed call k s after (Err e) kept said left bytes at to read = record {
  trace_off = λ most. trace_refused (rules_of s.player.system) (machine_in_session s) bytes k at read.there most call (number_of e) (place_of e) (sym read.call_is) (sym said);
  same = left;
}

pub returns-in_err-call-clause-made : goal.returns-in_err-call-clause-made
returns-in_err-call-clause-made c = λ bytes at to read.
    let p = err_from_is_err_and c.from_residual.result c.from_residual.ensures.1 in
    let e = c.in_err-call.field-0.0 in
    let fault : IsRead bytes c.args.number at (Err e) to = subst (λ r. IsRead bytes c.args.number at r to) c.in_err-call.was read in
    rw (p.1, p.2) (record {
      trace_off = λ most. trace_fault (rules_of c.args.self.now.player.system) (machine_in_session c.args.self.now) bytes c.args.number at
          fault.there most (number_of e) (place_of e) (sym fault.call_is);
      same = record { player_same = refl; state_same = refl; checkpoints_same = refl; work_same = refl };
    })

pub returns-clause-made : goal.returns-clause-made
returns-clause-made c = λ bytes at to read.
    obeyed c.in_ok-call.field-0 c.args.number c.args.self.now c.obey.new.self c.obey.result c.obey.ensures.kept c.obey.ensures.answer c.obey.ensures.left bytes at to
    (subst (λ r. IsRead bytes c.args.number at r to) c.in_ok-call.was read)
