-- Steps and steps back undo each other, over all lawful numbers.
use Rattle.motion.proofs.Undoing.{steps_undone}
use Rattle.motion.proofs.theorems.steps_undo_each_other.Goals as goal

pub returns : goal.returns
returns g c = λ positions momenta. steps_undone
