-- Each call takes words away.
use Rattle.std.proofs.Common.{length}
use Rattle.run.proofs.run.Given as goal

abbrev pub decreases-loop-words : goal.decreases-loop-words
decreases-loop-words l = length l.words
