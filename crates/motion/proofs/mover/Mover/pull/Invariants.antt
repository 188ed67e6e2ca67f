-- The bodies below `j` have given their impulse.
use Rattle.motion.specs.Changes.{Pulled}
use Rattle.motion.proofs.mover.Mover.pull.Given as goal

abbrev pub invariant-loop-j : goal.invariant-loop-j
invariant-loop-j l = Pulled l.self.system.now l.self.direction l.b l.j l.initial.state l.state
