-- Each turn of the loop is one shared step more.
use Rattle.std.proofs.Common.{◌≡◌, [], get_or, sym, refl, ap, ◌∙◌, arith}
use Rattle.std.proofs.lemmas.List.{take_all}
use Rattle.motion.specs.Memory.{state_of}
use Rattle.motion.specs.declared.turn.Direction.TheVariants.{Ahead}
use Rattle.shares.specs.Together.{Two, merged, two_of, together_of}
use Rattle.shares.specs.declared.SharedStep.{SharedStep}
use Rattle.shares.proofs.Merging.{together_none, together_more, together_alone}
use Rattle.shares.proofs.together.Goals as goal

pub loop-step-init : goal.loop-step-init
loop-step-init c = (sym (together_none _ _), refl, refl, record { work_behind = refl; rows_behind = refl })

pub loop-step-preserved : goal.loop-step-preserved
loop-step-preserved c =
    let system = c.args.system.now in
    let n = system.count in
    let none : SharedStep = record { direction = Ahead; first = [] } in
    let shared = get_or c.args.steps.now c.loop-step.step-index none in
    let made = c.in_ok-share_step.ensures.states in
    let left = c.in_ok-share_step.ensures.room in
    let start = two_of n c.args.first.now c.args.second.now in
    let one : two_of n c.share_step.new.first c.share_step.new.second
    ≡ record {
      first = merged system shared (state_of n c.loop-step.first) (state_of n c.loop-step.second);
      second = merged system shared (state_of n c.loop-step.first) (state_of n c.loop-step.second);
    } =
    λ k. record { first = made.first_state k; second = made.second_state k } in (
      one
          ∙ ap (λ (t : Two). record { first = merged system shared t.first t.second; second = merged system shared t.first t.second }) c.loop-step.invariant.0
          ∙ sym (together_more system c.args.steps.now c.loop-step.step-index none start c.loop-step-test.true),
      made.first_behind ∙ c.loop-step.invariant.1,
      made.second_behind ∙ c.loop-step.invariant.2,
      record {
        work_behind = left.work_behind ∙ c.loop-step.invariant.3.work_behind;
        rows_behind = left.rows_behind ∙ c.loop-step.invariant.3.rows_behind;
      },
    )

pub returns-clause-states : goal.returns-clause-states
returns-clause-states c =
    let system = c.args.system.now in
    let n = system.count in
    let steps = c.args.steps.now in
    let left = c.args.first.now in
    let right = c.args.second.now in
    let made : two_of n c.loop-step.first c.loop-step.second ≡ together_of system steps (two_of n left right) =
    c.loop-step.invariant.0 ∙ ap (λ l. together_of system l (two_of n left right)) (take_all c.loop-step.step-index steps (omega arith)) in
    record {
      states = made;
      as_one = λ same. made ∙ ap (λ t. together_of system steps (record { first = state_of n left; second = t })) (sym same) ∙ together_alone system steps (state_of n left);
      first_behind = c.loop-step.invariant.1;
      second_behind = c.loop-step.invariant.2;
    }
