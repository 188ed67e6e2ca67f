-- What a step keeps, every row keeps, whatever the step is.
use Rattle.motion.proofs.Rows.{keeps}
use Rattle.motion.proofs.theorems.rows_keep.Goals as goal

pub returns : goal.returns
returns g c = λ step back value. keeps
