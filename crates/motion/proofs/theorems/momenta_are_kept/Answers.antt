-- Fair laws keep the total momentum, over all lawful numbers.
use Rattle.motion.proofs.Undoing.{momentum_kept}
use Rattle.motion.proofs.theorems.momenta_are_kept.Goals as goal

pub returns : goal.returns
returns g c = λ positions momenta. momentum_kept
