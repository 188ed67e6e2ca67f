-- Words read with sign: the number that a word stands for in two's complement, its size, and its division toward 0.
-- Assumes nothing: these are definitions.
use Rattle.std.specs.Prelude.{◌≡◌, ℕ, ◌-◌, ◌/◌, ◌%◌, ◌^◌, ◌<◌, ◌≤◌, ℤ, pos, neg_ℤ, int_div, unsigned_abs}
use Rattle.std.specs.Int.{Width}
use mir.Val.{to_z, of_z, bits, hbits}

-- the number that the word n stands for: from -2 ^ (k - 1) to 2 ^ (k - 1) - 1 at a width of k bits
abbrev pub signed : Width → ℕ → ℤ
signed w n = to_z w n

-- how far that number is from 0
abbrev pub size : Width → ℕ → ℕ
size w n = unsigned_abs (signed w n)

-- the word of that number divided by m, the fraction cut off
abbrev pub divided : Width → ℕ → ℕ → ℕ
divided w n m = of_z w (int_div (signed w n) (pos m))

-- What reading with sign means, at a width of k bits where half is 2 ^ (k - 1), for a word n and a divisor m:
-- below half the word is the number itself; from half on the number is the word less 2 ^ k.
pub record ReadsSigned (w : Width) (n m : ℕ) : Type 0 where
  pub low : n < 2 ^ hbits w → signed w n ≡ pos n
  pub high : 2 ^ hbits w ≤ n → signed w n ≡ neg_ℤ (pos (2 ^ bits w - n))
  pub size_low : n ≤ 2 ^ hbits w → size w n ≡ n
  pub size_high : 2 ^ hbits w ≤ n → size w n ≡ 2 ^ bits w - n
  pub size_bound : size w n ≤ 2 ^ hbits w
  pub divided_low : n < 2 ^ hbits w → divided w n m ≡ n / m
  pub divided_high : 2 ^ hbits w ≤ n → divided w n m ≡ (2 ^ bits w - size w n / m) % 2 ^ bits w
