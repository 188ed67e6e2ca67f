-- Every system keeps its total momentum.
use Rattle.motion.proofs.SystemTheorems.{systems_keep_momentum}
use Rattle.motion.proofs.theorems.systems_keep_momentum.Goals as goal

pub returns : goal.returns
returns c = systems_keep_momentum
