-- Which rows are taken in and which are refused, and what is written where they are taken.
-- Assumes nothing: these are definitions.
use Rattle.std.specs.Prelude.{◌≡◌, ℕ, zero, suc, ◌+◌, ◌*◌, ◌%◌, ◌<◌, Bool, true, false, cond, not, ◌&&◌, ◌||◌, List, length, drop, ◌==◌, ◌≢◌, nat_lt, slice_index}
use Rattle.motion.specs.Memory.{position_at, momentum_at, state_length}
use Rattle.motion.specs.Refusals.{Told, good, refused}
use Rattle.shares.specs.Rows.{word_at, row_body, row_momentum, row_position, rows_in}

-- is body b that of one of the first k rows?
unfoldable pub seen : List ℕ → ℕ → ℕ → Bool
seen rows zero b = false
seen rows (suc k) b = seen rows k b || row_body rows k == b

-- does each of the first i bodies have one of the first k rows?
unfoldable pub all_seen : List ℕ → ℕ → ℕ → Bool
all_seen rows k zero = true
all_seen rows k (suc i) = all_seen rows k i && seen rows k i

-- is row k that of a body that does not exist, or that had a row before?
abbrev pub faulty : ℕ → List ℕ → ℕ → Bool
faulty n rows k = not (nat_lt (row_body rows k) n) || seen rows k (row_body rows k)

-- what is told behind the last whole row: bytes that end within a row, then a body without a row
abbrev pub ending : ℕ → List ℕ → Told (Unit {0})
ending n rows =
    cond (length rows % 49 == 0) (cond (all_seen rows (rows_in rows) n) (good tt) (refused 9 (rows_in rows))) (refused 1 (length rows))

-- what is told of the rows from k on, where so many are left: the first faulty one
unfoldable pub rows_from : ℕ → List ℕ → ℕ → ℕ → Told (Unit {0})
rows_from n rows zero k = ending n rows
rows_from n rows (suc left) k = cond (faulty n rows k) (refused 9 k) (rows_from n rows left (k + 1))

-- what is told of all rows, for n bodies
abbrev pub checking : ℕ → List ℕ → Told (Unit {0})
checking n rows = rows_from n rows (rows_in rows) 0

-- what is told where the slice lent for the state has this length
abbrev pub taking : ℕ → List ℕ → ℕ → Told (Unit {0})
taking n rows state = cond (nat_lt state (state_length n)) (refused 8 0) (checking n rows)

-- The first k rows are those of different bodies, all of which exist.
pub record Distinct (n : ℕ) (rows : List ℕ) (k : ℕ) : Type 0 where
  pub below : (j : ℕ) → j < k → row_body rows j < n
  pub apart : (i j : ℕ) → i < j → j < k → row_body rows i ≢ row_body rows j

-- Each of the n bodies has exactly one row, and there are no other bytes.
pub record EachOnce (n : ℕ) (rows : List ℕ) : Type 0 where
  pub exact : length rows ≡ 49 * rows_in rows
  pub distinct : Distinct n rows (rows_in rows)
  pub everyone : (b : ℕ) → b < n → (k : ℕ) × (k < rows_in rows) × (row_body rows k ≡ b)

-- A body's six words are those of its row.
pub record RowTaken (row words : List ℕ) : Type 0 where
  pub momenta : (a : ℕ) → a < 3 → slice_index words (2 * a + 1) ≡ word_at row (1 + 8 * a)
  pub positions : (a : ℕ) → a < 3 → slice_index words (2 * a) ≡ word_at row (25 + 8 * a)

-- The words of the bodies of the first k rows are those of their rows.
pub record RowsTaken (rows : List ℕ) (k : ℕ) (after : List ℕ) : Type 0 where
  pub momenta : (j : ℕ) → j < k → (a : ℕ) → a < 3 → momentum_at after (row_body rows j) a ≡ row_momentum rows j a
  pub positions : (j : ℕ) → j < k → (a : ℕ) → a < 3 → position_at after (row_body rows j) a ≡ row_position rows j a

-- Rows that hold each body once are written, and what lies behind the state stays.
pub record Taken (n : ℕ) (rows before after : List ℕ) : Type 0 where
  pub once : EachOnce n rows
  pub words : RowsTaken rows (rows_in rows) after
  pub behind : drop (state_length n) after ≡ drop (state_length n) before
