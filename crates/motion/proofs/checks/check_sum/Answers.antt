-- Each turn of the loop takes in one word more.
use Rattle.std.proofs.Common.{refl, add-one}
use lib.Bits.{bit_xor}
use Rattle.motion.specs.Checks.{check_below}
use Rattle.motion.proofs.checks.check_sum.Goals as goal

pub loop-k-init : goal.loop-k-init
unfolding check_below
loop-k-init c = refl

pub loop-k-preserved : goal.loop-k-preserved
unfolding check_below
loop-k-preserved c = rw add-one ((λ i. bit_xor (c.loop-k.invariant i) (c.rotate_left-sum.ensures i)))
