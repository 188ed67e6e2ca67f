-- Checkpoints in memory: a write under one number is read back there, and all others stay.
use Rattle.std.proofs.Common.{◌≡◌, ℕ, suc, ◌+◌, ◌*◌, ◌<◌, ◌≤◌, cond, eqb, ◌⊎◌, List, [], ◌∷◌, ◌++◌, length, get_or, take, drop, set, ℤ, Some, None, sym, refl, ap, ◌∙◌, inl, inr, add-zero, add_assoc, mul-le-mul_right, zero-add, arith, w64, SFits, of_z, rules, lt-ltb}
use borrow.Rule.Slice.PartMut.{put_mid}
use Rattle.std.proofs.lemmas.List.{places, append-nil, drop_all, drop-drop, get_or-drop, get_or-take, length-take-le}
use Rattle.std.proofs.lemmas.Slice.{drop-put_mid}
use Rattle.std.proofs.lemmas.Int.{to_z-of_z}
use Rattle.std.proofs.lemmas.Bool.Decides.{eqb_tells, leb_tells}
use Rattle.words.specs.Signed.{signed}
use Rattle.motion.specs.Memory.{state_of, state_length}
use Rattle.motion.proofs.Lending.{same_front}
use Rattle.calls.specs.Checkpoints.{checkpoint_length, checkpoints_length, checkpoint_at, kept_in, kept_words}

-- there is room for a checkpoint under each of sixteen numbers
pub room_for : (c size total : ℕ) → c < 16 → 16 * size ≤ total → c * size + size ≤ total
room_for c size total h room =
    let more : (c + 1) * size ≤ 16 * size = mul-le-mul_right size (omega arith) in
    omega arith

-- two words and a copy behind them are all the words
pub two_in_front : (ws : List ℕ) (a b : ℕ) (ys : List ℕ) (k : ℕ) → length ws ≤ k + 2 → 2 ≤ length ws →
    put_mid 2 k (set (set ws 0 a) 1 b) ys ≡ a ∷ b ∷ ys
two_in_front [] a b ys k most least = absurd (omega arith)
two_in_front (x ∷ []) a b ys k most least = absurd (omega arith)
two_in_front (x ∷ y ∷ ws) a b ys k most least = ap (λ l. a ∷ b ∷ l) (ap (λ l. ys ++ l) (drop_all k ws (omega arith)) ∙ append-nil ys)

-- a part that was written, between what lies in front of it and behind it
pub part_between : (at size k : ℕ) (xs ys zs : List ℕ) → k ≡ size → ys ≡ zs → put_mid at k xs ys ≡ take at xs ++ (zs ++ drop (at + size) xs)
part_between at size k xs ys zs e same =
    ap (λ l. take at xs ++ (l ++ drop k (drop at xs))) same
    ∙ ap (λ l. take at xs ++ (zs ++ l)) (drop-drop k at xs ∙ ap (λ n. drop (at + n) xs) e)

-- the words of n bodies' checkpoint are kept at `at`, in front of and behind what else there is
module _ (n at : ℕ) (xs ys : List ℕ) (long : length ys ≡ checkpoint_length n) (room : at + checkpoint_length n ≤ length xs) where
  kept : List ℕ
  kept = take at xs ++ (ys ++ drop (at + checkpoint_length n) xs)

  -- they are read there
  own_words : (j : ℕ) → j < checkpoint_length n → get_or kept (at + j) 0 ≡ get_or ys j 0
  unfolding kept
  own_words j h = search (rules, places)

  -- and elsewhere what was there before
  other_words : (k : ℕ) → (k < at) ⊎ (at + checkpoint_length n ≤ k) → get_or kept k 0 ≡ get_or xs k 0
  unfolding kept
  other_words k (inl h) = search (rules, places)
  other_words k (inr h) = grind (arith, places)

-- words that agree where a checkpoint lies keep the same
same_checkpoint : (n at to : ℕ) (xs ys : List ℕ) → ((j : ℕ) → j < checkpoint_length n → get_or xs (at + j) 0 ≡ get_or ys (to + j) 0) →
    checkpoint_at n xs at ≡ checkpoint_at n ys to
same_checkpoint n at to xs ys same = λ i.
    cond (eqb (flag i) 0) None (Some (record { time = signed w64 (same 1 (omega arith) i); state = state i }))
  where
    flag : get_or xs at 0 ≡ get_or ys to 0
    flag = ap (λ k. get_or xs k 0) (sym (add-zero at)) ∙ same 0 (omega arith) ∙ ap (λ k. get_or ys k 0) (add-zero to)

    word : (k : ℕ) → k < 6 * n → get_or (drop (at + 2) xs) k 0 ≡ get_or (drop (to + 2) ys) k 0
    word k h =
        get_or-drop (at + 2) xs k 0 ∙ ap (λ m. get_or xs m 0) (add_assoc at 2 k) ∙ same (2 + k) (omega arith)
        ∙ ap (λ m. get_or ys m 0) (sym (add_assoc to 2 k)) ∙ sym (get_or-drop (to + 2) ys k 0)

    state : state_of n (drop (at + 2) xs) ≡ state_of n (drop (to + 2) ys)
    state = same_front n (drop (at + 2) xs) (drop (to + 2) ys) word

-- under another number lie other words
apart : (c d size : ℕ) → c < d → c * size + size ≤ d * size
apart c d size h = let more : (c + 1) * size ≤ d * size = mul-le-mul_right size (omega arith) in omega arith

-- what lies behind the checkpoints stays
pub kept_behind : (n c : ℕ) (t : ℤ) (state xs : List ℕ) → c < 16 → 6 * n ≤ length state → checkpoints_length n ≤ length xs →
    drop (checkpoints_length n) (kept_words n c t state xs) ≡ drop (checkpoints_length n) xs
kept_behind n c t state xs number front room =
    let size = checkpoint_length n in
    let within = room_for c size (checkpoints_length n) number (omega arith) in
    let long = length-take-le (6 * n) state front in
    ap (drop (checkpoints_length n)) (sym (part_between (c * size) size size xs (1 ∷ of_z w64 t ∷ take (6 * n) state) _ refl refl))
    ∙ drop-put_mid (c * size) size xs (1 ∷ of_z w64 t ∷ take (6 * n) state) (checkpoints_length n) (omega arith) (omega arith) (omega arith)

module _ (n c : ℕ) (t : ℤ) (state xs : List ℕ) (number : c < 16) (fits : SFits w64 t) (front : 6 * n ≤ length state)
    (room : checkpoints_length n ≤ length xs) where
  written : List ℕ
  written = 1 ∷ of_z w64 t ∷ take (state_length n) state

  written_long : length written ≡ checkpoint_length n
  unfolding written
  written_long = let e = length-take-le (6 * n) state front in omega arith

  within : (d : ℕ) → d < 16 → d * checkpoint_length n + checkpoint_length n ≤ length xs
  within d h = room_for d (checkpoint_length n) (length xs) h room

  -- under the number c there is what was kept
  own_kept : checkpoint_at n (kept_words n c t state xs) (c * checkpoint_length n) ≡ Some (record { time = t; state = state_of n state })
  unfolding kept written
  own_kept =
      same_checkpoint n (c * checkpoint_length n) 0 (kept_words n c t state xs) written
      (λ j h. own_words n (c * checkpoint_length n) xs written written_long (within c number) j h ∙ ap (λ k. get_or written k 0) (sym (zero-add j)))
      ∙ (λ i. Some (record {
        time = to_z-of_z w64 t fits i;
        state = same_front n (take (state_length n) state) state (λ k h. get_or-take (6 * n) state k 0 h) i;
      }))

  -- and under every other number what was there before
  other_kept : (d : ℕ) → d < 16 → (d ≡ c → ⊥) →
      checkpoint_at n (kept_words n c t state xs) (d * checkpoint_length n) ≡ checkpoint_at n xs (d * checkpoint_length n)
  unfolding kept written
  other_kept d h ne =
      same_checkpoint n (d * checkpoint_length n) (d * checkpoint_length n) (kept_words n c t state xs) xs
      (λ j below. other_words n (c * checkpoint_length n) xs written written_long (within c number) (d * checkpoint_length n + j) (elsewhere j below))
    where
      elsewhere : (j : ℕ) → j < checkpoint_length n →
          (d * checkpoint_length n + j < c * checkpoint_length n) ⊎ (c * checkpoint_length n + checkpoint_length n ≤ d * checkpoint_length n + j)
      elsewhere j below = elim (leb_tells (suc d) c) [
        | inl e ↦ let before = apart d c (checkpoint_length n) e.1 in inl (omega arith)
        | inr e ↦ let behind = apart c d (checkpoint_length n) (omega arith) in inr (omega arith)
      ]

  -- so what is kept is what the machine keeps
  pub kept_read : kept_in n (kept_words n c t state xs) ≡ (λ d. cond (eqb d c) (Some (record { time = t; state = state_of n state })) (kept_in n xs d))
  kept_read = λ i d. at d i
    where
      at : (d : ℕ) → kept_in n (kept_words n c t state xs) d ≡ cond (eqb d c) (Some (record { time = t; state = state_of n state })) (kept_in n xs d)
      at d = elim (eqb_tells d c) [
        | inl e ↦ rw e.0 (ap (kept_in n (kept_words n c t state xs)) e.1 ∙ ap (λ b. cond b (checkpoint_at n (kept_words n c t state xs) (c * checkpoint_length n)) None) (lt-ltb c 16 number) ∙ own_kept)
        | inr e ↦ rw e.0 (elim (leb_tells (suc d) 16) [
          | inl l ↦ rw l.0 (other_kept d l.1 e.1)
          | inr l ↦ rw l.0 refl
        ])
      ]
