-- A word read with sign and divided is a word again, whatever it is divided by.
use Rattle.std.proofs.Common.{◌≡◌, ℕ, zero, suc, ◌/◌, ◌^◌, ◌<◌, ◌≤◌, ℤ, pos, negsuc, neg_ℤ, nat_abs, div-le_self, arith, w64, of_z}
use native.Mathlib.Nat.{zero-div}
use lib.Signed.{quot_z}
use Rattle.std.proofs.lemmas.Int.{ints}
use Rattle.words.specs.Signed.{signed, divided}

opposite_word : (k : ℕ) → of_z w64 (neg_ℤ (pos k)) < 2 ^ 64
opposite_word zero = omega arith
opposite_word (suc k) = omega arith

quotient_word : (z : ℤ) (m : ℕ) → nat_abs z ≤ 2 ^ 63 → of_z w64 (quot_z z (pos m)) < 2 ^ 64
quotient_word (pos n) m h = let e = div-le_self n m in omega arith
quotient_word (negsuc n) m h = opposite_word (suc n / m)

pub divided_word : (n m : ℕ) → n < 2 ^ 64 → divided w64 n m < 2 ^ 64
divided_word n m h = quotient_word (signed w64 n) m (grind (arith, ints))

pub divided_none : (m : ℕ) → divided w64 0 m ≡ 0
divided_none m = zero-div m
