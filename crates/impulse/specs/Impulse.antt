-- The impulse that one body gives another in a step.
-- Assumes nothing: these are definitions and statements.
use Rattle.std.specs.Prelude.{◌≡◌, ℕ, ◌*◌, ◌/◌, ◌^◌, ◌<◌, ◌≤◌, cond, ◌==◌, nat_lt}
use Rattle.std.specs.Int.{w64}
use Rattle.words.specs.Signed.{size}
use Rattle.words.specs.Words.{plus, less}
use Rattle.distance.specs.Distance.{separation, squared_distance, weight}

-- n with the sign of the word d: n, or its opposite where d is negative. At -2 ^ 63, which is its own opposite, 0.
abbrev pub with_sign_of : ℕ → ℕ → ℕ
with_sign_of d n = cond (nat_lt d (2 ^ 63)) n (cond (d == 2 ^ 63) 0 (less 64 0 n))

-- the way along axis a from a body at `here` to one at `there`, as a word
abbrev pub way : (ℕ → ℕ) → (ℕ → ℕ) → ℕ → ℕ
way here there a = less 64 (there a) (here a)

-- separation times weight along axis a
abbrev pub weighed : ℕ → (ℕ → ℕ) → ℕ → ℕ
weighed softening d a = separation (d a) * weight (squared_distance softening d)

-- the impulse along axis a on a body of mass m at `here` from one of mass n at `there`: toward it, as a word
abbrev pub impulse : ℕ → ℕ → ℕ → (ℕ → ℕ) → (ℕ → ℕ) → ℕ → ℕ
impulse softening m n here there a =
    with_sign_of (way here there a) (weighed softening (way here there) a / 2 ^ 20 * (m * n))

-- what a separation, a weight and a product of two masses never pass
pub record SmallFactors (separation weight masses : ℕ) : Type 0 where
  pub near : separation ≤ 2 ^ 19
  pub light : weight ≤ 2 ^ 32
  pub both : masses ≤ 1023 * 1023

-- a position on each axis is a word
abbrev pub Position : (ℕ → ℕ) → Type 0
Position x = (a : ℕ) → a < 3 → x a < 2 ^ 64

-- What holds of the impulses of two bodies, along each axis.
pub record PairOfImpulses (softening m n : ℕ) (here there : ℕ → ℕ) (a : ℕ) : Type 0 where
  -- what the two give each other cancels
  pub cancel : plus 64 (impulse softening m n here there a) (impulse softening n m there here a) ≡ 0
  -- a body is drawn toward the other, or not at all
  pub toward : way here there a < 2 ^ 63 → impulse softening m n here there a < 2 ^ 63
  pub toward_below : 2 ^ 63 < way here there a → impulse softening m n here there a < 2 ^ 63 → impulse softening m n here there a ≡ 0
  -- an impulse is a word, and nothing on the way to it comes near 64 bits
  pub a_word : impulse softening m n here there a < 2 ^ 64
  pub weighed_bound : weighed softening (way here there) a < 2 ^ 52
  pub impulse_bound : size w64 (impulse softening m n here there a) < 2 ^ 52
