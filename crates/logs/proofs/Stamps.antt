-- Sixteen bytes are a stamp just if their two numbers are its time and its check sum.
use Rattle.std.proofs.Common.{◌≡◌, ℕ, zero, suc, ◌+◌, ◌-◌, ◌*◌, ◌/◌, ◌%◌, ◌^◌, ◌<◌, ◌≤◌, Bool, true, false, cond, ◌&&◌, eqb, List, ◌++◌, length, get_or, take, drop, sym, ap, ◌∙◌, inl, inr, add_assoc, mod-lt, mod-eq_of_lt, div-le_self, arith, take-add, pow_pos, eq-eqb}
use Rattle.std.proofs.lemmas.Nat.{or_lt, xor_lt}
use Rattle.std.proofs.lemmas.List.{get_or-take, get_or-drop, get_or_append_left, get_or-append_right, drop-drop}
use Rattle.std.specs.List.{between}
use Rattle.std.proofs.lemmas.List.Edits.{get_or-between}
use Rattle.std.proofs.lemmas.Bool.Decides.{eqb_tells}
use Rattle.words.specs.Bytes.{number_at, bytes_of}
use Rattle.words.proofs.InBytes.{number_moved, number_of_bytes, bytes_of_number, length-bytes_of}
use Rattle.motion.specs.Systems.{WordsState}
use Rattle.calls.specs.Machine.{Machine}
use Rattle.logs.specs.Logs.{word_of, sum_below, state_sum, time_word, stamp}

-- the check sum is a word
word_small : (s : WordsState) (k : ℕ) → word_of s k < 2 ^ 64
word_small s k = by (eqb (k % 2) 0)
  where
    by : (b : Bool) → cond b (s.position (k / 6) (k % 6 / 2)).value (s.momentum (k / 6) (k % 6 / 2)).value < 2 ^ 64
    by true = (s.position (k / 6) (k % 6 / 2)).small
    by false = (s.momentum (k / 6) (k % 6 / 2)).small

sum_small : (s : WordsState) (k : ℕ) → sum_below s k < 2 ^ 64
unfolding sum_below
sum_small s zero = omega arith
sum_small s (suc k) =
    let w = word_small s k in
    let low : (word_of s k * 2 ^ (k % 64 % 64)) % 2 ^ 64 < 2 ^ 64 = mod-lt _ (pow_pos 64) in
    let part = div-le_self (word_of s k) (2 ^ ((64 - k % 64 % 64) % 64)) in
    let high : word_of s k / 2 ^ ((64 - k % 64 % 64) % 64) < 2 ^ 64 = omega arith in
    xor_lt 64 (sum_below s k) _ (sum_small s k) (or_lt 64 _ _ low high)

module _ (n : ℕ) (bytes : List ℕ) (m : Machine) (at : ℕ) where
  -- the test of a checker
  abbrev pub same : Bool
  same = eqb (number_at 8 bytes at) (time_word m.time) && eqb (number_at 8 bytes (at + 8)) (state_sum n m.state)

  -- the numbers that are read of the sixteen bytes there, and compared, are those of the test
  pub same_read : (sixteen : List ℕ) (time sum now state : ℕ) → at + 16 ≤ length bytes → sixteen ≡ take 16 (between at (length bytes) bytes) →
      time ≡ number_at 8 sixteen 0 → sum ≡ number_at 8 sixteen 8 → now ≡ time_word m.time → state ≡ state_sum n m.state → same ≡ (eqb time now && eqb sum state)
  same_read sixteen time sum now state room is time_is sum_is now_is state_is =
      let first = time_is ∙ number 0 at (omega arith) (omega arith) in
      let second = sum_is ∙ number 8 (at + 8) (omega arith) (omega arith) in
      λ i. eqb (sym first i) (sym now_is i) && eqb (sym second i) (sym state_is i)
    where
      number : (place to : ℕ) → place ≤ 8 → to ≡ at + place → number_at 8 sixteen place ≡ number_at 8 bytes to
      number place to within there = number_moved 8 sixteen bytes place to
          (λ j h. ap (λ l. get_or l (place + j) 0) is ∙ get_or-take 16 (between at (length bytes) bytes) (place + j) 0 (omega arith)
          ∙ get_or-between bytes at (length bytes) (place + j) 0 (omega arith) ∙ ap (λ i. get_or bytes i 0) (omega arith))

  first_byte : (j : ℕ) → j < 8 → get_or (stamp n m) j 0 ≡ get_or (bytes_of 8 (time_word m.time)) j 0
  first_byte j h = let long = length-bytes_of 8 (time_word m.time) in
      get_or_append_left (bytes_of 8 (time_word m.time)) (bytes_of 8 (state_sum n m.state)) 0 j (omega arith)

  second_byte : (j : ℕ) → get_or (stamp n m) (8 + j) 0 ≡ get_or (bytes_of 8 (state_sum n m.state)) j 0
  second_byte j =
      get_or-append_right (bytes_of 8 (time_word m.time)) (bytes_of 8 (state_sum n m.state)) 8 (8 + j) 0 (length-bytes_of 8 (time_word m.time)) (omega arith)
      ∙ ap (λ i. get_or (bytes_of 8 (state_sum n m.state)) i 0) (omega arith)

  -- a stamp passes
  pub stamp_passes : take 16 (drop at bytes) ≡ stamp n m → same ≡ true
  stamp_passes e =
      let time = number_of_bytes 8 (time_word m.time) bytes at (λ j h. byte j (omega arith) ∙ first_byte j h) ∙ mod-eq_of_lt (mod-lt _ (pow_pos 64)) in
      let sum = number_of_bytes 8 (state_sum n m.state) bytes (at + 8) (λ j h. ap (λ i. get_or bytes i 0) (add_assoc at 8 j) ∙ byte (8 + j) (omega arith) ∙ second_byte j) ∙ mod-eq_of_lt (sum_small m.state (6 * n)) in
      rw (eq-eqb (number_at 8 bytes at) (time_word m.time) time) (eq-eqb (number_at 8 bytes (at + 8)) (state_sum n m.state) sum)
    where
      byte : (j : ℕ) → j < 16 → get_or bytes (at + j) 0 ≡ get_or (stamp n m) j 0
      byte j h = sym (get_or-drop at bytes j 0) ∙ sym (get_or-take 16 (drop at bytes) j 0 h) ∙ ap (λ l. get_or l j 0) e

  -- and what passes is the stamp
  pub passes_stamp : ((j : ℕ) → get_or bytes j 0 < 256) → at + 16 ≤ length bytes → same ≡ true → take 16 (drop at bytes) ≡ stamp n m
  passes_stamp small room e = elim (eqb_tells (number_at 8 bytes at) (time_word m.time)) [
    | inr t ↦ absurd (never (sym (ap (λ b. b && eqb (number_at 8 bytes (at + 8)) (state_sum n m.state)) t.0) ∙ e))
    | inl t ↦ elim (eqb_tells (number_at 8 bytes (at + 8)) (state_sum n m.state)) [
      | inr u ↦ absurd (never (sym (λ i. t.0 i && u.0 i) ∙ e))
      | inl u ↦ parts ∙ (λ i. (sym (bytes_of_number 8 bytes at (omega arith) small) ∙ ap (bytes_of 8) t.1) i
          ++ (sym (bytes_of_number 8 bytes (at + 8) (omega arith) small) ∙ ap (bytes_of 8) u.1) i)
    ]
  ]
    where
      never : false ≡ true → ⊥
      never x = let z : ◌≡◌ {A = ℕ} 0 1 = ap (λ b. cond b 1 0) x in omega arith

      parts : take 16 (drop at bytes) ≡ take 8 (drop at bytes) ++ take 8 (drop (at + 8) bytes)
      parts = take-add 8 8 (drop at bytes) ∙ ap (λ l. take 8 (drop at bytes) ++ take 8 l) (drop-drop 8 at bytes)
