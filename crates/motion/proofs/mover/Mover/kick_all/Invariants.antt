-- The bodies below `i` have had all their exchanges, and i (i - 1) / 2 roots less are left.
use Rattle.std.proofs.Common.{◌≡◌, ◌+◌, ◌*◌, length}
use Rattle.motion.specs.Changes.{AllKicked}
use Rattle.motion.proofs.mover.Mover.kick_all.Given as goal

abbrev pub invariant-loop-i : goal.invariant-loop-i
invariant-loop-i l = record {
  done : AllKicked l.self.system.now l.self.direction l.i l.initial.state l.state;
  left : length l.rest + length l.rest + l.i * l.i ≡ length l.fn.roots + length l.fn.roots + l.i;
}
