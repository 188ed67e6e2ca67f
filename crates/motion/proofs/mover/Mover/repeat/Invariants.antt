-- As many steps have been made as turns of the loop.
use Rattle.std.proofs.Common.{◌≡◌}
use Rattle.motion.specs.Memory.{state_of}
use Rattle.motion.specs.Systems.{stepped}
use Rattle.motion.specs.Travel.{again}
use Rattle.motion.proofs.mover.Mover.repeat.Given as goal

abbrev pub invariant-loop : goal.invariant-loop
invariant-loop l =
    state_of l.self.system.now.count l.state ≡ again (stepped l.self.direction l.self.system.now) l.counter (state_of l.self.system.now.count l.initial.state)
