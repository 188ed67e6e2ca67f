-- The definitions compute every worked example.
use Rattle.motion.proofs.Examples.{worked}
use Rattle.motion.proofs.theorems.worked_systems_hold.Goals as goal

pub returns : goal.returns
returns c = worked
