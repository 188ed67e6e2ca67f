-- What a change carries over a step, it carries over every row, whatever the steps are.
use Rattle.motion.proofs.Rows.{carries}
use Rattle.motion.proofs.theorems.changes_carry.Goals as goal

pub returns : goal.returns
returns g c = λ step back other_step other_back change. carries
