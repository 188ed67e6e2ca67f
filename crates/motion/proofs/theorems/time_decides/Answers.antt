-- The state belongs to the time, whatever the step is.
use Rattle.motion.proofs.Rows.{time_decides}
use Rattle.motion.proofs.theorems.time_decides.Goals as goal

pub returns : goal.returns
returns g c = λ step back. time_decides
