-- Each turn looks at one call more.
use Rattle.std.proofs.Common.{◌+◌, ◌-◌, length, Ok, sym, ap, ◌∙◌, subst, arith}
use Rattle.std.proofs.lemmas.Result.{err_from_is_err_and}
use Rattle.motion.specs.Refusals.{good, refused, number_of, place_of}
use Rattle.calls.specs.Machine.{rules_of}
use Rattle.calls.specs.Sessions.{machine_in_session}
use Rattle.logs.specs.Checking.{acceptance}
use Rattle.logs.specs.InSessions.{FoundIn}
use Rattle.logs.proofs.Found.{told_over, from_here}
use Rattle.logs.proofs.checking.check_calls.Goals as goal

pub returns-clause-answer : goal.returns-clause-answer
returns-clause-answer c =
    let l = c.loop-at in
    ap (λ a. good (acceptance a)) c.accept-2.ensures
    ∙ sym (l.invariant.told ∙ told_over (rules_of c.args.session.now.player.system) c.args.bytes.now l.calls l.at (machine_in_session l.session) _ c.loop-at-test.false)

pub returns-in_err-next-clause-answer : goal.returns-in_err-next-clause-answer
returns-in_err-next-clause-answer c =
    let l = c.loop-at in
    let bytes = c.args.bytes.now in
    let p = err_from_is_err_and c.from_residual.result c.from_residual.ensures.1 in
    rw (p.1, p.2) (sym (l.invariant.told
    ∙ from_here bytes l.calls l.at (machine_in_session l.session) c.args.session.now.player.system l.session.player.system l.invariant.kept.system (omega arith)
    ∙ c.in_err-next.ensures.found (length bytes - (l.calls + 1))))

pub returns-in-Break-clause-answer : goal.returns-in-Break-clause-answer
returns-in-Break-clause-answer c =
    let l = c.loop-at in
    let bytes = c.args.bytes.now in
    let found = subst (λ n. FoundIn bytes l.calls l.at l.session c.check_call.new.session (Ok n)) c.in-Break.is
    c.in_ok-next.ensures.found in
    ap (λ a. good (acceptance a)) c.accept.ensures
    ∙ ap (λ p. good (record { calls = l.calls; time = p.time; ending = refused (number_of c.in-Break.refusal) (place_of c.in-Break.refusal) })) found.1
    ∙ sym (l.invariant.told
    ∙ from_here bytes l.calls l.at (machine_in_session l.session) c.args.session.now.player.system l.session.player.system l.invariant.kept.system (omega arith)
    ∙ found.0 (length bytes - (l.calls + 1)))
