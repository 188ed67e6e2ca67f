-- What changes in memory when momenta or positions do, body by body and axis by axis.
-- Assumes nothing: these are definitions.
use Rattle.std.specs.Prelude.{◌≡◌, ℕ, ◌+◌, ◌*◌, ◌<◌, ◌≤◌, Bool, true, false, List, ◌≢◌, slice_index, slice_index_or}
use Rattle.std.specs.Int.{w64}
use Rattle.words.specs.Signed.{divided}
use Rattle.words.specs.Words.{plus, less, words as words_of}
use Rattle.motion.specs.Bodies.{sum_of}
use Rattle.motion.specs.Memory.{state_of, position_at, momentum_at}
use Rattle.motion.specs.Systems.{WordsState, system_law, mass_of}
use Rattle.motion.specs.declared.system.System.{System}
use Rattle.motion.specs.declared.turn.Direction.{Direction}
use Rattle.motion.specs.declared.turn.Direction.TheVariants.{Ahead, Behind}

-- a word with another added, or taken away where time runs back
abbrev pub moved : Direction → ℕ → ℕ → ℕ
moved Ahead p by = plus 64 p by
moved Behind p by = less 64 p by

-- the other direction
abbrev pub opposite : Direction → Direction
opposite Ahead = Behind
opposite Behind = Ahead

-- Of a body's six words, the momenta have changed by an impulse.
pub record Kicked (direction : Direction) (impulse : ℕ → ℕ) (before after : List ℕ) : Type 0 where
  pub positions : (a : ℕ) → a < 3 → slice_index after (2 * a) ≡ slice_index before (2 * a)
  pub momenta : (a : ℕ) → a < 3 → slice_index after (2 * a + 1) ≡ moved direction (slice_index before (2 * a + 1)) (impulse a)

-- Of a body's six words, the positions have changed by the momenta.
pub record Drifted (direction : Direction) (mass : ℕ) (before after : List ℕ) : Type 0 where
  pub positions : (a : ℕ) → a < 3 →
      slice_index after (2 * a) ≡ moved direction (slice_index before (2 * a)) (divided w64 (slice_index before (2 * a + 1)) mass)
  pub momenta : (a : ℕ) → a < 3 → slice_index after (2 * a + 1) ≡ slice_index before (2 * a + 1)

-- the impulse along axis a on body i from body j, where words hold the state
abbrev pub impulse_at : System → List ℕ → ℕ → ℕ → ℕ → ℕ
impulse_at system words a i j =
    ((system_law system).impulse (state_of system.count words).position a i j).value

-- Bodies i and j have given each other their impulses, and nothing else has changed.
pub record Exchanged (system : System) (direction : Direction) (i j : ℕ) (before after : List ℕ) : Type 0 where
  pub positions : (b a : ℕ) → a < 3 → position_at after b a ≡ position_at before b a
  pub first : (a : ℕ) → a < 3 → momentum_at after i a ≡ moved direction (momentum_at before i a) (impulse_at system before a i j)
  pub second : (a : ℕ) → a < 3 → momentum_at after j a ≡ moved direction (momentum_at before j a) (impulse_at system before a j i)
  pub others : (b : ℕ) → (b ≢ i) → (b ≢ j) → (a : ℕ) → a < 3 → momentum_at after b a ≡ momentum_at before b a

-- the impulses along axis a on body b from the bodies below k, added up
abbrev pub gathered : System → List ℕ → ℕ → ℕ → ℕ → ℕ
gathered system words a b k =
    (sum_of (words_of 64) ((system_law system).impulse (state_of system.count words).position a b) k).value

-- Body i and each body below j have given each other their impulses, and nothing else has changed.
pub record RowExchanged (system : System) (direction : Direction) (i j : ℕ) (before after : List ℕ) : Type 0 where
  pub positions : (b a : ℕ) → a < 3 → position_at after b a ≡ position_at before b a
  pub done : (b : ℕ) → b < j → (a : ℕ) → a < 3 →
      momentum_at after b a ≡ moved direction (momentum_at before b a) (impulse_at system before a b i)
  pub own : (a : ℕ) → a < 3 → momentum_at after i a ≡ moved direction (momentum_at before i a) (gathered system before a i j)
  pub rest : (b : ℕ) → j ≤ b → (b ≢ i) → (a : ℕ) → a < 3 → momentum_at after b a ≡ momentum_at before b a

-- All bodies below i have given each other their impulses, and nothing else has changed.
pub record AllKicked (system : System) (direction : Direction) (i : ℕ) (before after : List ℕ) : Type 0 where
  pub positions : (b a : ℕ) → a < 3 → position_at after b a ≡ position_at before b a
  pub done : (b : ℕ) → b < i → (a : ℕ) → a < 3 →
      momentum_at after b a ≡ moved direction (momentum_at before b a) (gathered system before a b i)
  pub rest : (b : ℕ) → i ≤ b → (a : ℕ) → a < 3 → momentum_at after b a ≡ momentum_at before b a

-- all bodies
abbrev pub everyone : ℕ → Bool
everyone b = true

-- The bodies below i that `who` names have moved by their momenta, and no momentum has changed.
pub record AllDrifted (system : System) (direction : Direction) (who : ℕ → Bool) (i : ℕ) (before after : List ℕ) : Type 0 where
  pub momenta : (b a : ℕ) → a < 3 → momentum_at after b a ≡ momentum_at before b a
  pub done : (b : ℕ) → b < i → who b ≡ true → (a : ℕ) → a < 3 →
      position_at after b a ≡ moved direction (position_at before b a) (divided w64 (momentum_at before b a) (mass_of system b))
  pub rest : (b : ℕ) → i ≤ b → (a : ℕ) → a < 3 → position_at after b a ≡ position_at before b a

-- Body b has been given the impulse from body j, and nothing else has changed.
pub record Received (system : System) (direction : Direction) (b j : ℕ) (before after : List ℕ) : Type 0 where
  pub positions : (c a : ℕ) → a < 3 → position_at after c a ≡ position_at before c a
  pub own : (a : ℕ) → a < 3 → momentum_at after b a ≡ moved direction (momentum_at before b a) (impulse_at system before a b j)
  pub others : (c : ℕ) → (c ≢ b) → (a : ℕ) → a < 3 → momentum_at after c a ≡ momentum_at before c a

-- Body b has been given the impulses from the bodies below k, and nothing else has changed.
pub record Pulled (system : System) (direction : Direction) (b k : ℕ) (before after : List ℕ) : Type 0 where
  pub positions : (c a : ℕ) → a < 3 → position_at after c a ≡ position_at before c a
  pub own : (a : ℕ) → a < 3 → momentum_at after b a ≡ moved direction (momentum_at before b a) (gathered system before a b k)
  pub others : (c : ℕ) → (c ≢ b) → (a : ℕ) → a < 3 → momentum_at after c a ≡ momentum_at before c a

-- a share holds body b
abbrev pub member : List Bool → ℕ → Bool
member share b = slice_index_or share b false

-- The bodies of a share below i have been given all their impulses, and no position has changed.
pub record ShareKicked (system : System) (direction : Direction) (share : List Bool) (i : ℕ) (before after : List ℕ) : Type 0 where
  pub positions : (c a : ℕ) → a < 3 → position_at after c a ≡ position_at before c a
  pub done : (b : ℕ) → b < i → member share b ≡ true → (a : ℕ) → a < 3 →
      momentum_at after b a ≡ moved direction (momentum_at before b a) (gathered system before a b system.count)
  pub rest : (b : ℕ) → i ≤ b → (a : ℕ) → a < 3 → momentum_at after b a ≡ momentum_at before b a

-- The words of the bodies of a share are those of the state s.
pub record ShareHolds (n : ℕ) (share : List Bool) (s : WordsState) (after : List ℕ) : Type 0 where
  pub positions : (b : ℕ) → b < n → member share b ≡ true → (a : ℕ) → a < 3 → position_at after b a ≡ (s.position b a).value
  pub momenta : (b : ℕ) → b < n → member share b ≡ true → (a : ℕ) → a < 3 → momentum_at after b a ≡ (s.momentum b a).value
