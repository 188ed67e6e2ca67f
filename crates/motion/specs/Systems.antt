-- The law of a system: the impulses of its bodies and how far they move, over words of 64 bits.
-- Assumes nothing: these are definitions.
use Rattle.std.specs.Prelude.{◌≡◌, ℕ, List, map, length, take, slice_index}
use Rattle.std.specs.Int.{w64}
use Rattle.words.specs.Signed.{divided}
use Rattle.words.specs.Words.{Word, word, words}
use Rattle.words.specs.Masses.{Mass}
use Rattle.impulse.specs.Impulse.{impulse}
use Rattle.motion.specs.Bodies.{State, Law, step, step_back}
use Rattle.motion.specs.declared.system.System.{System}
use Rattle.motion.specs.declared.turn.Direction.{Direction}
use Rattle.motion.specs.declared.turn.Direction.TheVariants.{Ahead, Behind}

-- positions and momenta that are words
abbrev pub WordsState : Type 0
WordsState = State (Word 64) (Word 64)

-- The law by a softening and the mass of each body: impulses as they are defined for two bodies; in a step a body moves by
-- its momentum, read with sign, divided by its mass toward 0.
abbrev pub law_of : ℕ → (ℕ → ℕ) → Law (Word 64) (Word 64)
law_of softening mass = record {
  impulse = λ x a i j. word 64 (impulse softening (mass i) (mass j) (λ b. (x i b).value) (λ b. (x j b).value) a);
  motion = λ i a p. word 64 (divided w64 p.value (mass i));
}

-- the mass of body b, and 0 where there is no such body
abbrev pub mass_of : System → ℕ → ℕ
mass_of system b = slice_index (map (λ m. m.value) (take system.count system.masses)) b

abbrev pub system_law : System → Law (Word 64) (Word 64)
system_law system = law_of system.softening.value (mass_of system)

-- a step of n bodies by a softening and the mass of each, and a step back
abbrev pub step_by : ℕ → (ℕ → ℕ) → ℕ → WordsState → WordsState
step_by softening mass n = step (words 64) (words 64) (law_of softening mass) n

abbrev pub back_by : ℕ → (ℕ → ℕ) → ℕ → WordsState → WordsState
back_by softening mass n = step_back (words 64) (words 64) (law_of softening mass) n

-- a step of a system, and a step back
abbrev pub step_of : System → WordsState → WordsState
step_of system = step_by system.softening.value (mass_of system) system.count

abbrev pub back_of : System → WordsState → WordsState
back_of system = back_by system.softening.value (mass_of system) system.count

-- a step in either direction
abbrev pub stepped : Direction → System → WordsState → WordsState
stepped Ahead = step_of
stepped Behind = back_of

-- the system has this softening and these masses
pub record Made (softening : ℕ) (masses : List Mass) (system : System) : Type 0 where
  pub softening_is : system.softening.value ≡ softening
  pub count_is : system.count ≡ length masses
  pub masses_are : take system.count system.masses ≡ masses
