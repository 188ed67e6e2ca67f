-- The axes below `a` have been written.
use Rattle.std.proofs.Common.{◌≡◌, ℕ, ◌+◌, ◌*◌, ◌<◌, get_or}
use Rattle.shares.specs.Rows.{word_at}
use Rattle.shares.proofs.taking.take_row.Given as goal

abbrev pub invariant-loop-a : goal.invariant-loop-a
invariant-loop-a l =
    ((k : ℕ) → k < l.a → get_or l.words (2 * k + 1) 0 ≡ word_at l.row (1 + 8 * k))
    × ((k : ℕ) → k < l.a → get_or l.words (2 * k) 0 ≡ word_at l.row (25 + 8 * k))
