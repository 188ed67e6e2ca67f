-- The rows that computers send each other: 49 bytes for each body, its number, three momenta, three positions.
-- Assumes nothing: these are definitions.
use Rattle.std.specs.Prelude.{◌≡◌, ℕ, zero, suc, ◌+◌, ◌*◌, ◌/◌, ◌<◌, Bool, true, cond, List, length, drop, nat_lt, slice_index, slice_index_or}
use Rattle.std.specs.Simd.{first_chunks}
use Rattle.words.specs.Bytes.{number_at}
use Rattle.motion.specs.Changes.{member}
use Rattle.motion.specs.Memory.{position_at, momentum_at, state_length}
use Rattle.motion.specs.Refusals.{Told, good, refused}
use Rattle.motion.specs.Systems.{WordsState}

-- the word of the eight bytes from `at` on, low byte first
abbrev pub word_at : List ℕ → ℕ → ℕ
word_at bytes at = number_at 8 bytes at

-- row k: the body that it is of, its momentum and its position along axis a
abbrev pub row_body : List ℕ → ℕ → ℕ
row_body bytes k = slice_index bytes (49 * k)

abbrev pub row_momentum : List ℕ → ℕ → ℕ → ℕ
row_momentum bytes k a = word_at bytes (49 * k + (1 + 8 * a))

abbrev pub row_position : List ℕ → ℕ → ℕ → ℕ
row_position bytes k a = word_at bytes (49 * k + (25 + 8 * a))

-- the whole rows in so many bytes, counted, and each of its own
abbrev pub rows_in : List ℕ → ℕ
rows_in bytes = length bytes / 49

abbrev pub rows_of : List ℕ → List (List ℕ)
rows_of bytes = first_chunks 49 (rows_in bytes) bytes

-- Row k is that of body b in the state s.
pub record RowOf (s : WordsState) (b : ℕ) (bytes : List ℕ) (k : ℕ) : Type 0 where
  pub body : row_body bytes k ≡ b
  pub momenta : (a : ℕ) → a < 3 → row_momentum bytes k a ≡ (s.momentum b a).value
  pub positions : (a : ℕ) → a < 3 → row_position bytes k a ≡ (s.position b a).value

-- the bodies of a share below b, counted
unfoldable pub members : List Bool → ℕ → ℕ
members share zero = 0
members share (suc b) = cond (member share b) 1 0 + members share b

-- The bodies of a share below i have their rows, by the words of a state, in ascending order.
pub record RowsWritten (share : List Bool) (words : List ℕ) (i : ℕ) (rows : List ℕ) : Type 0 where
  pub numbers : (b : ℕ) → b < i → member share b ≡ true → row_body rows (members share b) ≡ b
  pub momenta : (b : ℕ) → b < i → member share b ≡ true → (a : ℕ) → a < 3 → row_momentum rows (members share b) a ≡ momentum_at words b a
  pub positions : (b : ℕ) → b < i → member share b ≡ true → (a : ℕ) → a < 3 → row_position rows (members share b) a ≡ position_at words b a

-- Of n bodies, those of the share have their rows in the state s, in ascending order, and nothing lies behind them that
-- was not there before.
pub record Sent (n : ℕ) (share : List Bool) (s : WordsState) (sent : ℕ) (before after : List ℕ) : Type 0 where
  pub size : sent ≡ 49 * members share n
  pub rows : (b : ℕ) → b < n → member share b ≡ true → RowOf s b after (members share b)
  pub behind : drop sent after ≡ drop sent before

-- A row of its own, of 49 bytes, has the number of a body and its six words.
pub record RowWritten (words : List ℕ) (body : ℕ) (row : List ℕ) : Type 0 where
  pub number : slice_index_or row 0 0 ≡ body
  pub momenta : (a : ℕ) → a < 3 → word_at row (1 + 8 * a) ≡ slice_index words (2 * a + 1)
  pub positions : (a : ℕ) → a < 3 → word_at row (25 + 8 * a) ≡ slice_index words (2 * a)

-- what a share is told that is to be worked out, by the lengths of the lent slices: so many bytes, or what is too short
abbrev pub sending : ℕ → List Bool → ℕ → ℕ → ℕ → Told ℕ
sending n share state work rows =
    cond (nat_lt state (state_length n)) (refused 8 0) (cond (nat_lt work (state_length n)) (refused 8 2)
    (cond (nat_lt rows (49 * members share n)) (refused 8 3) (good (49 * members share n))))
