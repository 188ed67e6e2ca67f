-- The bodies below `b` have moved, of those that move.
use Rattle.motion.specs.Changes.{AllDrifted}
use Rattle.motion.proofs.mover.Mover.drift.Given as goal

abbrev pub invariant-loop-b : goal.invariant-loop-b
invariant-loop-b g l = AllDrifted l.self.system.now l.self.direction (g.M.Members.has l.members) l.b l.initial.state l.state
