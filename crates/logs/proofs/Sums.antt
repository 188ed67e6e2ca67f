-- The check sum of the words in memory is that of the state that they hold, word by word.
use Rattle.std.proofs.Common.{◌≡◌, ℕ, zero, suc, ◌+◌, ◌*◌, ◌/◌, ◌%◌, ◌^◌, ◌<◌, ◌≤◌, true, List, length, get_or, take, sym, refl, ap, ◌∙◌, inl, inr, mod-eq_of_lt, arith, lt-ltb}
use lib.Bits.{bit_xor}
use Rattle.std.proofs.lemmas.List.{get_or-take, length-take-le}
use Rattle.std.proofs.lemmas.Bool.Decides.{eqb_tells}
use Rattle.motion.specs.Checks.{turned_left, check_below, check_sum}
use Rattle.motion.specs.Memory.{state_of, position_at, momentum_at, inside, held}
use Rattle.motion.proofs.WholeSteps.{held_inside}
use Rattle.logs.specs.Logs.{word_of, sum_below, state_sum}

module _ (n : ℕ) (xs : List ℕ) (words : (k : ℕ) → get_or xs k 0 < 2 ^ 64) where
  -- a word in memory is a position or a momentum
  word_same : (k : ℕ) → k < 6 * n → get_or xs k 0 ≡ word_of (state_of n xs) k
  word_same k h = elim (eqb_tells (k % 2) 0) [
    | inl e ↦ rw e.0 (ap (λ j. get_or xs j 0) (place_even e.1) ∙ sym (value (position_at xs) (words _)))
    | inr e ↦ rw e.0 (ap (λ j. get_or xs j 0) (place_odd e.1) ∙ sym (value (momentum_at xs) (words _)))
  ]
    where
      body : k / 6 < n
      body = omega arith

      axis : k % 6 / 2 < 3
      axis = omega arith

      there : inside n (k / 6) (k % 6 / 2) ≡ true
      there = rw (lt-ltb (k % 6 / 2) 3 axis) (lt-ltb (k / 6) n body)

      place_even : k % 2 ≡ 0 → k ≡ 6 * (k / 6) + 2 * (k % 6 / 2)
      place_even e = omega arith

      place_odd : (k % 2 ≡ 0 → ⊥) → k ≡ 6 * (k / 6) + (2 * (k % 6 / 2) + 1)
      place_odd ne = omega arith

      value : (at : ℕ → ℕ → ℕ) → at (k / 6) (k % 6 / 2) < 2 ^ 64 → (held n at (k / 6) (k % 6 / 2)).value ≡ at (k / 6) (k % 6 / 2)
      value at small = ap (λ w. w.value) (held_inside n at (k / 6) (k % 6 / 2) there) ∙ mod-eq_of_lt small

  sum_same : (m : ℕ) (k : ℕ) → m ≡ 6 * n → k ≤ m → check_below (take m xs) k ≡ sum_below (state_of n xs) k
  unfolding check_below sum_below
  sum_same m zero e h = refl
  sum_same m (suc k) e h = λ i. bit_xor (sum_same m k e (omega arith) i) (turned_left ((get_or-take m xs k 0 h ∙ word_same k (omega arith)) i) (k % 64))

  pub state_sum_same : (m : ℕ) → m ≡ 6 * n → 6 * n ≤ length xs → check_sum (take m xs) ≡ state_sum n (state_of n xs)
  state_sum_same m e room =
      let long : length (take m xs) ≡ 6 * n = length-take-le m xs (omega arith) ∙ e in
      ap (check_below (take m xs)) long ∙ sum_same m (6 * n) e (omega arith)
