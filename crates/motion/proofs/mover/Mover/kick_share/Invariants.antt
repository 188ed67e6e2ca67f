-- The bodies of the share below `b` have their impulses.
use Rattle.motion.specs.Changes.{ShareKicked}
use Rattle.motion.proofs.mover.Mover.kick_share.Given as goal

abbrev pub invariant-loop-b : goal.invariant-loop-b
invariant-loop-b l = ShareKicked l.self.system.now l.self.direction l.share l.b l.initial.state l.state
