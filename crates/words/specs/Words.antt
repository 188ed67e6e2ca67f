-- Words of k bits, whose sums and differences are taken modulo 2 ^ k: at every width k one definition.
-- Assumes nothing: these are definitions.
use Rattle.std.specs.Prelude.{ℕ, ◌+◌, ◌-◌, ◌%◌, ◌^◌, ◌<◌}
use native.Mathlib.Nat.{mod-lt}
use lib.Pow.{pow_pos}
use Rattle.words.specs.Numbers.{Numbers}

-- the sum of two words of k bits, which wraps
abbrev pub plus : ℕ → ℕ → ℕ → ℕ
plus k a b = (a + b) % 2 ^ k

-- their difference, which wraps
abbrev pub less : ℕ → ℕ → ℕ → ℕ
less k a b = (a + (2 ^ k - b)) % 2 ^ k

-- a number below 2 ^ k
pub record Word (k : ℕ) : Type 0 where
  pub value : ℕ
  pub small : value < 2 ^ k

-- the word that a number is modulo 2 ^ k
abbrev pub word : (k : ℕ) → ℕ → Word k
word k n = record { value = n % 2 ^ k; small = mod-lt n (pow_pos k) }

-- words of k bits as numbers with a sum and a difference
abbrev pub words : (k : ℕ) → Numbers (Word k)
words k = record {
  none = word k 0;
  plus = λ a b. word k (a.value + b.value);
  less = λ a b. word k (a.value + (2 ^ k - b.value));
}
