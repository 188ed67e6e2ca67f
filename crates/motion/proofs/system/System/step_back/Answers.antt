-- It is a turn of one.
use Rattle.motion.specs.Travel.{again}
use Rattle.motion.proofs.system.System.step_back.Goals as goal

pub returns : goal.returns
unfolding again
returns c = record { told_so = c.turn.ensures.told_so; state_left = c.turn.ensures.state_left; work_left = c.turn.ensures.work_left }
