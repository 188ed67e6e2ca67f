-- Every system may be shifted.
use Rattle.motion.proofs.SystemTheorems.{systems_shift}
use Rattle.motion.proofs.theorems.systems_shift.Goals as goal

pub returns : goal.returns
returns c = systems_shift
