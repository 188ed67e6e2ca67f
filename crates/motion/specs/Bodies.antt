-- Bodies that give each other impulses, step by step, over any numbers that can be added and taken away. Positions and
-- momenta may be two kinds of numbers.
-- Assumes nothing: these are definitions.
use Rattle.std.specs.Prelude.{◌≡◌, ℕ, zero, suc, ◌<◌}
use Rattle.words.specs.Numbers.{Numbers}

-- the position and the momentum of body i along axis a
pub record State (P D : Type 0) : Type 0 where
  pub position : ℕ → ℕ → P
  pub momentum : ℕ → ℕ → D

-- A law: the impulse along axis a on body i from body j, by the positions of all bodies; and how far body i moves along
-- axis a in a step, by its momentum.
pub record Law (P D : Type 0) : Type 0 where
  pub impulse : (ℕ → ℕ → P) → ℕ → ℕ → ℕ → D
  pub motion : ℕ → ℕ → D → P

-- The impulses of a pair cancel, and no body gives itself one.
pub record Fair {P D : Type 0} (momenta : Numbers D) (law : Law P D) : Type 0 where
  pub opposite : (x : ℕ → ℕ → P) (a i j : ℕ) → momenta.plus (law.impulse x a i j) (law.impulse x a j i) ≡ momenta.none
  pub alone : (x : ℕ → ℕ → P) (a i : ℕ) → law.impulse x a i i ≡ momenta.none

-- f 0, f 1 and so on to f (n - 1), added up
unfoldable pub sum_of : {N : Type 0} → Numbers N → (ℕ → N) → ℕ → N
sum_of numbers f zero = numbers.none
sum_of numbers f (suc n) = numbers.plus (f n) (sum_of numbers f n)

module _ {P D : Type 0} (positions : Numbers P) (momenta : Numbers D) (law : Law P D) (n : ℕ) where
  -- the impulses along axis a on body i from all n bodies
  unfoldable pub impulses : (ℕ → ℕ → P) → ℕ → ℕ → D
  impulses x a i = sum_of momenta (λ j. law.impulse x a i j) n

  -- momenta after a step: impulses at the old positions are added
  unfoldable pub kicked : State P D → ℕ → ℕ → D
  kicked s i a = momenta.plus (s.momentum i a) (impulses s.position a i)

  -- a step: momenta change by the impulses at the old positions, then positions by the new momenta
  unfoldable pub step : State P D → State P D
  step s = record {
    position = λ i a. positions.plus (s.position i a) (law.motion i a (kicked s i a));
    momentum = kicked s;
  }

  -- positions after a step back: what the momenta moved is taken away
  unfoldable pub drifted_back : State P D → ℕ → ℕ → P
  drifted_back s i a = positions.less (s.position i a) (law.motion i a (s.momentum i a))

  -- a step back: positions change by the momenta, then momenta by the impulses at the new positions
  unfoldable pub step_back : State P D → State P D
  step_back s = record {
    position = drifted_back s;
    momentum = λ i a. momenta.less (s.momentum i a) (impulses (drifted_back s) a i);
  }

-- the sum of the momenta of n bodies along axis a
abbrev pub total_momentum : {P D : Type 0} → Numbers D → ℕ → ℕ → State P D → D
total_momentum momenta n a s = sum_of momenta (λ i. s.momentum i a) n

-- A new numbering of n bodies: body i of the new numbering is body `old i` of the old one, which is body `new (old i)`.
pub record Renumbering (n : ℕ) : Type 0 where
  pub old : ℕ → ℕ
  pub new : ℕ → ℕ
  pub old_below : (i : ℕ) → i < n → old i < n
  pub new_below : (i : ℕ) → i < n → new i < n
  pub old_new : (i : ℕ) → old (new i) ≡ i
  pub new_old : (i : ℕ) → new (old i) ≡ i

-- a state numbered anew
abbrev pub renumbered : {P D : Type 0} → (ℕ → ℕ) → State P D → State P D
renumbered old s = record { position = λ i a. s.position (old i) a; momentum = λ i a. s.momentum (old i) a }

-- a state with every position moved along each axis a by `by a`
abbrev pub shifted : {P D : Type 0} → Numbers P → (ℕ → P) → State P D → State P D
shifted positions by s = record { position = λ i a. positions.plus (s.position i a) (by a); momentum = s.momentum }
