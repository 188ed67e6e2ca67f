-- A word written into a part of other bytes: it is read there, and words beside the part stay.
use Rattle.std.proofs.Common.{◌≡◌, ℕ, ◌+◌, ◌^◌, ◌<◌, ◌≤◌, ◌⊎◌, List, length, get_or, ap, ◌∙◌, inl, inr, mod-eq_of_lt, arith}
use borrow.Rule.Slice.PartMut.{put_mid}
use Rattle.words.specs.Bytes.{bytes_of}
use Rattle.words.proofs.InBytes.{number_written, number_stays, length-bytes_of}
use Rattle.words.proofs.Placed.{placed_other}
use Rattle.shares.specs.Rows.{word_at}

module _ (at s m : ℕ) (xs ys : List ℕ) (w : ℕ) (eight : s ≡ 8) (room : at + s ≤ length xs) (size : m ≡ s) (same : ys ≡ bytes_of m w) where
  written : ys ≡ bytes_of s w
  written = same ∙ ap (λ k. bytes_of k w) size

  long : length ys ≡ s
  long = ap length written ∙ length-bytes_of s w

  pub word_own : w < 2 ^ 64 → word_at (put_mid at s xs ys) at ≡ w
  word_own small = number_written 8 w xs ys at s eight room written ∙ mod-eq_of_lt small

  pub byte_other : (k : ℕ) → (k < at) ⊎ (at + 8 ≤ k) → get_or (put_mid at s xs ys) k 0 ≡ get_or xs k 0
  byte_other k (inl h) = placed_other at s xs ys room long k (inl h)
  byte_other k (inr h) = placed_other at s xs ys room long k (inr (omega arith))

  pub word_other : (from : ℕ) → (from + 8 ≤ at) ⊎ (at + 8 ≤ from) → word_at (put_mid at s xs ys) from ≡ word_at xs from
  word_other from (inl h) = number_stays 8 (put_mid at s xs ys) xs from (λ j l r. byte_other j (inl (omega arith)))
  word_other from (inr h) = number_stays 8 (put_mid at s xs ys) xs from (λ j l r. byte_other j (inr (omega arith)))
