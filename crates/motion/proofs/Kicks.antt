-- Rows of exchanges add up: each body meets the others in ascending order, so the sum by its definition is met term by term.
use Rattle.std.proofs.Common.{◌≡◌, ℕ, suc, ◌+◌, ◌%◌, ◌^◌, ◌<◌, cond, List, get_or, sym, refl, ap, ◌∙◌, inl, inr, arith}
use Rattle.std.proofs.lemmas.Bool.Decides.{leb_tells, eqb_tells}
use Rattle.words.specs.Words.{Word, word, words}
use Rattle.impulse.proofs.Pairs.{impulse_level}
use Rattle.motion.specs.Bodies.{sum_of}
use Rattle.motion.specs.Changes.{moved, impulse_at, gathered, Exchanged, RowExchanged, AllKicked}
use Rattle.motion.specs.Memory.{state_of, position_at, momentum_at, inside, held}
use Rattle.motion.specs.Systems.{mass_of, system_law}
use Rattle.motion.specs.declared.system.System.{System}
use Rattle.motion.specs.declared.turn.Direction.{Direction}
use Rattle.motion.specs.declared.turn.Direction.TheVariants.{Ahead, Behind}
use Rattle.motion.proofs.Sums.{sum_zero, sum_one_more}

-- to move by s and then by f is to move by their sum
pub moved_more : (direction : Direction) (m s f : ℕ) → s < 2 ^ 64 → f < 2 ^ 64 → moved direction (moved direction m s) f ≡ moved direction m ((f + s) % 2 ^ 64)
moved_more Ahead m s f h k = omega arith
moved_more Behind m s f h k = omega arith

pub moved_none : (direction : Direction) (m : ℕ) → m < 2 ^ 64 → m ≡ moved direction m 0
moved_none Ahead m h = omega arith
moved_none Behind m h = omega arith

-- what is the same for every body and axis is held the same
pub held_within : (n : ℕ) (f g : ℕ → ℕ → ℕ) → ((b a : ℕ) → b < n → a < 3 → f b a ≡ g b a) → (b a : ℕ) → held n f b a ≡ held n g b a
held_within n f g same b a = ap (word 64) (elim (leb_tells (suc a) 3) [
  | inl t ↦ elim (leb_tells (suc b) n) [
    | inl u ↦ ap (λ p. cond (inside n b a) p 0) (same b a u.1 t.1)
    | inr u ↦ rw t.0 (rw u.0 refl)
  ]
  | inr t ↦ rw t.0 refl
])

pub held_same : (n : ℕ) (f g : ℕ → ℕ → ℕ) → ((b a : ℕ) → a < 3 → f b a ≡ g b a) → (b a : ℕ) → held n f b a ≡ held n g b a
held_same n f g same = held_within n f g (λ b a _ h. same b a h)

-- words with the same positions hold a state with the same positions
pub same_positions : (n : ℕ) (xs ys : List ℕ) → ((b a : ℕ) → a < 3 → position_at ys b a ≡ position_at xs b a) → (state_of n ys).position ≡ (state_of n xs).position
same_positions n xs ys same = λ k b a. held_same n (position_at ys) (position_at xs) same b a k

module _ (system : System) (xs : List ℕ) where
  -- the impulses of the law, and their sums, as words
  force : ℕ → ℕ → ℕ → Word 64
  force = (system_law system).impulse (state_of system.count xs).position

  pub impulse_word : (a b c : ℕ) → impulse_at system xs a b c < 2 ^ 64
  unfolding force
  impulse_word a b c = (force a b c).small

  pub gathered_word : (a b k : ℕ) → gathered system xs a b k < 2 ^ 64
  unfolding force
  gathered_word a b k = (sum_of (words 64) (force a b) k).small

  pub gathered_none : (a b : ℕ) → gathered system xs a b 0 ≡ 0
  gathered_none a b = ap (λ w. w.value) (sum_zero (words 64) _)

  pub gathered_more : (a b k : ℕ) → gathered system xs a b (k + 1) ≡ (impulse_at system xs a b k + gathered system xs a b k) % 2 ^ 64
  gathered_more a b k = ap (λ w. w.value) (sum_one_more (words 64) _ k)

  -- a body adds nothing to its own sum
  pub gathered_own : (a b : ℕ) → gathered system xs a b b ≡ gathered system xs a b (b + 1)
  gathered_own a b =
      let alone : impulse_at system xs a b b ≡ 0 =
      ap (λ n. n % 2 ^ 64) (impulse_level system.softening.value (mass_of system b) (mass_of system b) a
      (λ c. ((state_of system.count xs).position b c).value) (λ c. ((state_of system.count xs).position b c).value) refl ((state_of system.count xs).position b a).small) in
      let small = gathered_word a b b in
      sym (gathered_more a b b ∙ ap (λ n. (n + gathered system xs a b b) % 2 ^ 64) alone ∙ omega arith)

  -- impulses depend on positions alone
  pub impulse_stays : (ys : List ℕ) → ((b a : ℕ) → a < 3 → position_at ys b a ≡ position_at xs b a) → (a b c : ℕ) → impulse_at system ys a b c ≡ impulse_at system xs a b c
  impulse_stays ys same a b c = ap (λ x. ((system_law system).impulse x a b c).value) (same_positions system.count xs ys same)

  pub gathered_stays : (ys : List ℕ) → ((b a : ℕ) → a < 3 → position_at ys b a ≡ position_at xs b a) → (a b k : ℕ) → gathered system ys a b k ≡ gathered system xs a b k
  gathered_stays ys same a b k =
      ap (λ x. (sum_of (words 64) ((system_law system).impulse x a b) k).value) (same_positions system.count xs ys same)

-- no exchange yet
pub row_none : (system : System) (direction : Direction) (i : ℕ) (xs : List ℕ) → ((k : ℕ) → get_or xs k 0 < 2 ^ 64) → RowExchanged system direction i 0 xs xs
row_none system direction i xs words = record {
  positions = λ _ _ _. refl;
  done = λ b h a k. absurd (omega arith);
  own = λ a k. moved_none direction _ (words _) ∙ ap (moved direction (momentum_at xs i a)) (sym (gathered_none system xs a i));
  rest = λ _ _ _ _ _. refl;
}

-- a row of exchanges, with one more
pub row_more : (system : System) (direction : Direction) (i j : ℕ) (xs ys zs : List ℕ) → j < i →
    RowExchanged system direction i j xs ys → Exchanged system direction i j ys zs → RowExchanged system direction i (j + 1) xs zs
row_more system direction i j xs ys zs second row one =
    let stays = impulse_stays system xs ys row.positions in
    record {
      positions = λ b a h. one.positions b a h ∙ row.positions b a h;
      done = λ b h a k. elim (eqb_tells b j) [
        | inl t ↦ rw t.1 (one.second a k ∙ (λ l. moved direction (row.rest j (omega arith) (omega arith) a k l) (stays a j i l)))
        | inr t ↦ one.others b (omega arith) t.1 a k ∙ row.done b (omega arith) a k
      ];
      own = λ a k.
          one.first a k ∙ (λ l. moved direction (row.own a k l) (stays a i j l))
          ∙ moved_more direction _ _ _ (gathered_word system xs a i j) (impulse_word system xs a i j)
          ∙ ap (moved direction (momentum_at xs i a)) (sym (gathered_more system xs a i j));
      rest = λ b h ne a k. one.others b ne (omega arith) a k ∙ row.rest b (omega arith) ne a k;
    }

-- all rows below i, with row i
pub kicked_more : (system : System) (direction : Direction) (i : ℕ) (xs ys zs : List ℕ) →
    AllKicked system direction i xs ys → RowExchanged system direction i i ys zs → AllKicked system direction (i + 1) xs zs
kicked_more system direction i xs ys zs all row =
    let stays = impulse_stays system xs ys all.positions in
    let sums = gathered_stays system xs ys all.positions in
    record {
      positions = λ b a h. row.positions b a h ∙ all.positions b a h;
      done = λ b h a k. elim (eqb_tells b i) [
        | inl t ↦ rw t.1 (row.own a k ∙ (λ l. moved direction (all.rest i (omega arith) a k l) ((sums a i i ∙ gathered_own system xs a i) l)))
        | inr t ↦ row.done b (omega arith) a k ∙ (λ l. moved direction (all.done b (omega arith) a k l) (stays a b i l))
            ∙ moved_more direction _ _ _ (gathered_word system xs a b i) (impulse_word system xs a b i)
            ∙ ap (moved direction (momentum_at xs b a)) (sym (gathered_more system xs a b i))
      ];
      rest = λ b h a k. row.rest b (omega arith) (omega arith) a k ∙ all.rest b (omega arith) a k;
    }
