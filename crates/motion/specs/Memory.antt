-- How a state lies in memory: for body b and axis a the position at 6b + 2a and the momentum behind it.
-- Assumes nothing: these are definitions.
use Rattle.std.specs.Prelude.{ℕ, ◌+◌, ◌-◌, ◌*◌, ◌/◌, Bool, cond, ◌&&◌, List, nat_lt, slice_index}
use Rattle.words.specs.Words.{Word, word}
use Rattle.motion.specs.Systems.{WordsState}

-- the words of a state of n bodies
abbrev pub state_length : ℕ → ℕ
state_length n = 6 * n

-- the words of work for n bodies: one for each pair
abbrev pub work_length : ℕ → ℕ
work_length n = n * (n - 1) / 2

abbrev pub position_at : List ℕ → ℕ → ℕ → ℕ
position_at words b a = slice_index words (6 * b + 2 * a)

abbrev pub momentum_at : List ℕ → ℕ → ℕ → ℕ
momentum_at words b a = slice_index words (6 * b + (2 * a + 1))

-- is there a body b and an axis a?
abbrev pub inside : ℕ → ℕ → ℕ → Bool
inside n b a = nat_lt a 3 && nat_lt b n

-- `at b a` as a word where there is such a body and axis, else 0
abbrev pub held : ℕ → (ℕ → ℕ → ℕ) → ℕ → ℕ → Word 64
held n at b a = word 64 (cond (inside n b a) (at b a) 0)

-- the state of n bodies that words hold
abbrev pub state_of : ℕ → List ℕ → WordsState
state_of n words = record { position = held n (position_at words); momentum = held n (momentum_at words) }
