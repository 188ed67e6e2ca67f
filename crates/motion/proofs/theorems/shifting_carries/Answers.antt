-- Shifts carry every step over, over all lawful numbers.
use Rattle.motion.proofs.Undoing.{shifting_carries}
use Rattle.motion.proofs.theorems.shifting_carries.Goals as goal

pub returns : goal.returns
returns g c = λ positions momenta. shifting_carries
