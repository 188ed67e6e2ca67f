-- Each turn reads one mass more, or tells its fault.
use Rattle.std.proofs.Common.{◌≡◌, ◌+◌, ◌-◌, ◌<◌, length, sym, ap, ◌∙◌, subst, arith}
use Rattle.std.proofs.lemmas.Result.{err_from_is_err_and}
use Rattle.calls.specs.Machine.{provided}
use Rattle.calls.specs.Opening.{MassesRead}
use Rattle.calls.specs.SystemBytes.{bodies_told}
use Rattle.calls.proofs.Opened.{bodies_more, bodies_over, masses_more}
use Rattle.calls.proofs.opening.read_masses.Goals as goal

pub returns-in_err-mass-clause-answer : goal.returns-in_err-mass-clause-answer
returns-in_err-mass-clause-answer c =
    let p = err_from_is_err_and c.from_residual.result c.from_residual.ensures.1 in
    let bytes = c.args.bytes.now in
    let n = length c.args.masses.now in
    let b = c.loop-body.body in
    rw (p.1, p.2) (sym (c.loop-body.invariant.0 ∙ bodies_more bytes n b (omega arith)
    ∙ ap (λ t. provided t (bodies_told bytes (n - (b + 1)) (b + 1))) (sym c.in_err-mass.ensures.answer)))

pub loop-body-preserved : goal.loop-body-preserved
loop-body-preserved c =
    let bytes = c.args.bytes.now in
    let n = length c.args.masses.now in
    let b = c.loop-body.body in
    let there : b < length c.loop-body.masses = omega arith in
    let read = c.in_ok-mass.ensures in (
      c.loop-body.invariant.0 ∙ bodies_more bytes n b (omega arith) ∙ ap (λ t. provided t (bodies_told bytes (n - (b + 1)) (b + 1))) (sym read.answer),
      masses_more bytes b c.loop-body.masses c.in_ok-mass.field-0 there read.room read.value c.loop-body.invariant.1,
    )

pub returns : goal.returns
returns c =
    let bytes = c.args.bytes.now in
    let n = length c.args.masses.now in
    let all : c.loop-body.body ≡ n = omega arith in
    record {
      answer = sym (c.loop-body.invariant.0 ∙ bodies_over bytes n c.loop-body.body (omega arith));
      values = subst (λ k. MassesRead bytes k c.loop-body.masses) all c.loop-body.invariant.1;
    }
