-- The next square is beyond `square` all the way, so the loop ends at the whole root; each turn falls.
use Rattle.std.proofs.Common.{◌+◌, ◌*◌, ◌^◌, ◌<◌}
use Rattle.distance.proofs.root.Given as goal

abbrev pub invariant-loop-root : goal.invariant-loop-root
invariant-loop-root l = (l.square < (l.root + 1) * (l.root + 1)) × (l.root < 2 ^ 32)

abbrev pub decreases-loop-root : goal.decreases-loop-root
decreases-loop-root l = l.root
