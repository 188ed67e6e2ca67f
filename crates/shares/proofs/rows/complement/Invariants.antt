-- The bodies below `body` have been written.
use Rattle.std.proofs.Common.{◌≡◌, ℕ, ◌<◌, false, not, get_or}
use Rattle.motion.specs.Changes.{member}
use Rattle.shares.proofs.rows.complement.Given as goal

abbrev pub invariant-loop-body : goal.invariant-loop-body
invariant-loop-body l = (k : ℕ) → k < l.body → get_or l.others k false ≡ not (member l.share k)
