-- A turn is a row of one.
use Rattle.motion.specs.Travel.{travel}
use Rattle.motion.proofs.system.System.turn.Goals as goal

pub returns : goal.returns
unfolding travel
returns c = record { told_so = c.travel.ensures.outcome.told_so; state_left = c.travel.ensures.outcome.state_left; work_left = c.travel.ensures.outcome.work_left }
