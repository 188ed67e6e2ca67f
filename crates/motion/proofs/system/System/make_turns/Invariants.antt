-- The turns before this one have been made.
use Rattle.std.proofs.Common.{◌≡◌, take}
use Rattle.motion.specs.Memory.{state_of}
use Rattle.motion.specs.Systems.{step_of, back_of}
use Rattle.motion.specs.Travel.{travel}
use Rattle.motion.proofs.system.System.make_turns.Given as goal

abbrev pub invariant-loop-turn : goal.invariant-loop-turn
invariant-loop-turn l =
    state_of l.self.count l.state
    ≡ travel (step_of l.self) (back_of l.self) (take l.turn-index l.turns) (state_of l.self.count l.initial.state)
