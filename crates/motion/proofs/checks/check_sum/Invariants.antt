-- The words before this one are in the sum.
use Rattle.std.proofs.Common.{◌≡◌}
use Rattle.motion.specs.Checks.{check_below}
use Rattle.motion.proofs.checks.check_sum.Given as goal

abbrev pub invariant-loop-k : goal.invariant-loop-k
invariant-loop-k l = l.sum ≡ check_below l.words l.k
