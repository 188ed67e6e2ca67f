-- Two computers that share the bodies, and one that has them all.
-- Assumes nothing: these are definitions.
use Rattle.std.specs.Prelude.{◌≡◌, ℕ, ◌*◌, ◌<◌, cond, List, [], ◌∷◌, drop, nat_lt}
use Rattle.motion.specs.Changes.{member}
use Rattle.motion.specs.Memory.{state_of, state_length}
use Rattle.motion.specs.Refusals.{Told, good, refused}
use Rattle.motion.specs.Systems.{WordsState, stepped}
use Rattle.motion.specs.declared.system.System.{System}
use Rattle.shares.specs.Rows.{rows_in, row_body, RowOf}
use Rattle.shares.specs.Taking.{EachOnce}
use Rattle.shares.specs.declared.SharedStep.{SharedStep}

-- the state after a shared step, where the first computer has the state s and the second t: of each body the words that
-- the computer gives it that has it in its share
abbrev pub merged : System → SharedStep → WordsState → WordsState → WordsState
merged system shared s t = record {
  position = λ b a. cond (member shared.first b) ((stepped shared.direction system s).position b a) ((stepped shared.direction system t).position b a);
  momentum = λ b a. cond (member shared.first b) ((stepped shared.direction system s).momentum b a) ((stepped shared.direction system t).momentum b a);
}

-- the states of the two after a row of shared steps
pub record Two : Type 0 where
  pub first : WordsState
  pub second : WordsState

unfoldable pub together_of : System → List SharedStep → Two → Two
together_of system [] two = two
together_of system (shared ∷ steps) two =
    together_of system steps (record { first = merged system shared two.first two.second; second = merged system shared two.first two.second })

-- the state of one computer after the same steps
unfoldable pub alone_of : System → List SharedStep → WordsState → WordsState
alone_of system [] s = s
alone_of system (shared ∷ steps) s = alone_of system steps (stepped shared.direction system s)

-- Rows that hold each of n bodies once, with its words in the state s.
pub record RowsOf (n : ℕ) (s : WordsState) (rows : List ℕ) : Type 0 where
  pub once : EachOnce n rows
  pub carried : (k : ℕ) → k < rows_in rows → RowOf s (row_body rows k) rows k

-- After one shared step both computers have the merged state, and what lies behind their states stays.
pub record Shared (system : System) (shared : SharedStep) (first first_after second second_after : List ℕ) : Type 0 where
  pub first_state : state_of system.count first_after ≡ merged system shared (state_of system.count first) (state_of system.count second)
  pub second_state : state_of system.count second_after ≡ merged system shared (state_of system.count first) (state_of system.count second)
  pub first_behind : drop (state_length system.count) first_after ≡ drop (state_length system.count) first
  pub second_behind : drop (state_length system.count) second_after ≡ drop (state_length system.count) second

-- What lies behind the words of work and behind the bytes of rows that n bodies need is as it was.
pub record RoomLeft (n : ℕ) (work work_after rows rows_after : List ℕ) : Type 0 where
  pub work_behind : drop (state_length n) work_after ≡ drop (state_length n) work
  pub rows_behind : drop (49 * n) rows_after ≡ drop (49 * n) rows

-- the states that the two hold in memory
abbrev pub two_of : ℕ → List ℕ → List ℕ → Two
two_of n first second = record { first = state_of n first; second = state_of n second }

-- After a row of shared steps: the states of the two; from one state, both have the state of one computer alone.
pub record Together (system : System) (steps : List SharedStep) (first first_after second second_after : List ℕ) : Type 0 where
  pub states : two_of system.count first_after second_after ≡ together_of system steps (two_of system.count first second)
  pub as_one : state_of system.count first ≡ state_of system.count second →
      two_of system.count first_after second_after
      ≡ record { first = alone_of system steps (state_of system.count first); second = alone_of system steps (state_of system.count first) }
  pub first_behind : drop (state_length system.count) first_after ≡ drop (state_length system.count) first
  pub second_behind : drop (state_length system.count) second_after ≡ drop (state_length system.count) second

-- what is told where slices of these lengths are lent for the two states, for work and for rows
abbrev pub lent_together : ℕ → ℕ → ℕ → ℕ → ℕ → Told (Unit {0})
lent_together n first second work rows =
    cond (nat_lt first (state_length n)) (refused 8 0) (cond (nat_lt second (state_length n)) (refused 8 0)
    (cond (nat_lt work (state_length n)) (refused 8 2) (cond (nat_lt rows (49 * n)) (refused 8 3) (good tt))))
