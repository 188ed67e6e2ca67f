-- New numberings carry every step over, over all lawful numbers.
use Rattle.motion.proofs.Undoing.{renumbering_carries}
use Rattle.motion.proofs.theorems.renumbering_carries.Goals as goal

pub returns : goal.returns
returns g c = λ positions momenta lawful lawful_momenta n r law other. renumbering_carries lawful lawful_momenta r
