-- The axes below `a` have been written.
use Rattle.std.proofs.Common.{◌≡◌, ℕ, ◌+◌, ◌*◌, ◌<◌, get_or}
use Rattle.shares.specs.Rows.{word_at}
use Rattle.shares.proofs.rows.write_row.Given as goal

abbrev pub invariant-loop-a : goal.invariant-loop-a
invariant-loop-a l =
    (get_or l.row 0 0 ≡ l.body)
    × ((k : ℕ) → k < l.a → word_at l.row (1 + 8 * k) ≡ get_or l.words (2 * k + 1) 0)
    × ((k : ℕ) → k < l.a → word_at l.row (25 + 8 * k) ≡ get_or l.words (2 * k) 0)
