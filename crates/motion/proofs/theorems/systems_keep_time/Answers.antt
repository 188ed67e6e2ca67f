-- Every system's state belongs to the time.
use Rattle.motion.proofs.SystemTheorems.{systems_keep_time}
use Rattle.motion.proofs.theorems.systems_keep_time.Goals as goal

pub returns : goal.returns
returns c = systems_keep_time
