-- The bodies of every system may be numbered anew.
use Rattle.motion.proofs.SystemTheorems.{systems_renumber}
use Rattle.motion.proofs.theorems.systems_renumber.Goals as goal

pub returns : goal.returns
returns c = systems_renumber
