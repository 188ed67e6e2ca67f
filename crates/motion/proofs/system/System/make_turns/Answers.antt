-- Each turn of the loop is one turn of the lever more.
use Rattle.std.proofs.Common.{sym, refl, ap, ◌∙◌}
use Rattle.motion.specs.Memory.{state_of}
use Rattle.motion.specs.Systems.{step_of, back_of}
use Rattle.motion.specs.Travel.{again, travel}
use Rattle.motion.specs.declared.turn.Turn.TheVariants.{Forward, Back}
use Rattle.motion.proofs.Rows.{travel_more}
use Rattle.motion.proofs.system.System.make_turns.Goals as goal
use Rattle.motion.proofs.system.System.make_turns.Goals.{in-Forward, in-Back}

pub loop-turn-init : goal.loop-turn-init
unfolding travel
loop-turn-init c = refl

pub loop-turn-preserved : goal.loop-turn-preserved
loop-turn-preserved c =
    let system = c.args.self.now in
    let so_far = c.loop-turn.invariant in
    let next = travel_more (step_of system) (back_of system) c.args.turns.now c.loop-turn.turn-index (Forward 0) in
    let start = state_of system.count c.args.state.now in
    elim c.match-turn.branch [
      | in-Forward w ↦ ap (state_of system.count) w.state-is ∙ w.repeat.ensures ∙ ap (again (step_of system) w.in-Forward.count) so_far
          ∙ sym (next (Forward w.in-Forward.count) start c.loop-turn-test.true w.in-Forward.is)
      | in-Back w ↦ ap (state_of system.count) w.state-is ∙ w.repeat-in-Back.ensures ∙ ap (again (back_of system) w.in-Back.count) so_far
          ∙ sym (next (Back w.in-Back.count) start c.loop-turn-test.true w.in-Back.is)
    ]
