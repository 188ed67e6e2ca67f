-- The whole root of a number.
-- Assumes nothing: these are definitions.
use Rattle.std.specs.Prelude.{ℕ, zero, suc, ◌+◌, ◌*◌, ◌/◌, ◌<◌, ◌≤◌, cond, nat_le}

-- r is the whole root of q: the largest whole number whose square is at most q
pub record WholeRoot (q r : ℕ) : Type 0 where
  pub square_within : r * r ≤ q
  pub next_beyond : q < (r + 1) * (r + 1)

-- the root of q by the root h of q / 4: twice h, or one more where the square of that is still within q
abbrev pub root_by_quarter : ℕ → ℕ → ℕ
root_by_quarter q h = cond (nat_le ((2 * h + 1) * (2 * h + 1)) q) (2 * h + 1) (2 * h)

-- the whole root of a number below 4 ^ k
unfoldable pub root_below : ℕ → ℕ → ℕ
root_below zero q = 0
root_below (suc k) q = root_by_quarter q (root_below k (q / 4))

-- the whole root of a word of 64 bits
abbrev pub whole_root : ℕ → ℕ
whole_root q = root_below 32 q
