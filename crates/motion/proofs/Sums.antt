-- Sums of lawful numbers: two sums may be exchanged, so a sum does not depend on the order, and a double sum of opposites is none.
use Rattle.std.proofs.Common.{◌≡◌, ℕ, zero, suc, ◌+◌, ◌<◌, cond, eqb, sym, refl, ap, ◌∙◌, add-one, arith, eq-eqb, ne_eqb}
use native.Mathlib.Decide.{le_ind}
use Rattle.words.specs.Numbers.{Numbers, Lawful}
use Rattle.motion.specs.Bodies.{sum_of, Renumbering}

module _ {N : Type 0} (numbers : Numbers N) where
  -- no summands add up to none
  pub sum_zero : (f : ℕ → N) → sum_of numbers f 0 ≡ numbers.none
  unfolding sum_of
  sum_zero f = refl

  -- the last summand may be set apart
  pub sum_suc : (f : ℕ → N) (n : ℕ) → sum_of numbers f (suc n) ≡ numbers.plus (f n) (sum_of numbers f n)
  unfolding sum_of
  sum_suc f n = refl

  -- the same, as a loop counts
  pub sum_one_more : (f : ℕ → N) (n : ℕ) → sum_of numbers f (n + 1) ≡ numbers.plus (f n) (sum_of numbers f n)
  sum_one_more f n = rw add-one (sum_suc f n)

  -- equal summands have equal sums
  pub sum_same : (f g : ℕ → N) (n : ℕ) → ((i : ℕ) → i < n → f i ≡ g i) → sum_of numbers f n ≡ sum_of numbers g n
  unfolding sum_of
  sum_same f g zero same = refl
  sum_same f g (suc n) same = λ k. numbers.plus (same n (omega arith) k) (sum_same f g n (λ i h. same i (omega arith)) k)

module _ {N : Type 0} {numbers : Numbers N} (laws : Lawful numbers) where
  -- adding none changes nothing
  pub plus_none : (a : N) → numbers.plus a numbers.none ≡ a
  plus_none a = laws.plus_comm a numbers.none ∙ laws.none-plus a

  -- two numbers may be added in either order
  pub plus_right_comm : (a b c : N) → numbers.plus (numbers.plus a b) c ≡ numbers.plus (numbers.plus a c) b
  plus_right_comm a b c = laws.plus_assoc a b c ∙ ap (numbers.plus a) (laws.plus_comm b c) ∙ sym (laws.plus_assoc a c b)

  -- of four summands, the two in the middle may change places
  pub plus-plus_comm : (a b c d : N) →
      numbers.plus (numbers.plus a b) (numbers.plus c d) ≡ numbers.plus (numbers.plus a c) (numbers.plus b d)
  plus-plus_comm a b c d = simp (← laws.plus_assoc, plus_right_comm)

  -- summands that are none add up to none
  pub sum_none : (f : ℕ → N) (n : ℕ) → ((i : ℕ) → i < n → f i ≡ numbers.none) → sum_of numbers f n ≡ numbers.none
  unfolding sum_of
  sum_none f zero nones = refl
  sum_none f (suc n) nones =
      (λ k. numbers.plus (nones n (omega arith) k) (sum_none f n (λ i h. nones i (omega arith)) k)) ∙ laws.none-plus numbers.none

  -- the sum of sums is the sum of both
  pub sum-plus : (f g : ℕ → N) (n : ℕ) →
      sum_of numbers (λ i. numbers.plus (f i) (g i)) n ≡ numbers.plus (sum_of numbers f n) (sum_of numbers g n)
  unfolding sum_of
  sum-plus f g zero = sym (laws.none-plus numbers.none)
  sum-plus f g (suc n) = ap (numbers.plus _) (sum-plus f g n) ∙ plus-plus_comm (f n) (g n) _ _

  -- two sums may be exchanged
  pub sum_exchange : (f : ℕ → ℕ → N) (m n : ℕ) →
      sum_of numbers (λ i. sum_of numbers (f i) n) m ≡ sum_of numbers (λ j. sum_of numbers (λ i. f i j) m) n
  unfolding sum_of
  sum_exchange f zero n = sym (sum_none _ n (λ i h. refl))
  sum_exchange f (suc m) n = ap (numbers.plus _) (sum_exchange f m n) ∙ sym (sum-plus (f m) _ n)

  -- a sum with all summands none but that at m is that at m
  pub sum_single : (f : ℕ → N) (m n : ℕ) → m < n → ((i : ℕ) → (i ≡ m → ⊥) → f i ≡ numbers.none) →
      sum_of numbers f n ≡ f m
  unfolding sum_of
  sum_single f m n below nones = le_ind (λ n. sum_of numbers f n ≡ f m)
      (ap (numbers.plus (f m)) (sum_none f m (λ i h. nones i (λ p. omega arith))) ∙ plus_none (f m))
      (λ n h ih. (λ k. numbers.plus (nones n (λ p. omega arith) k) (ih k)) ∙ laws.none-plus (f m)) n below

  -- a sum does not depend on the order of its summands
  pub sum_renumbered : {n : ℕ} (r : Renumbering n) (f : ℕ → N) → sum_of numbers (λ i. f (r.old i)) n ≡ sum_of numbers f n
  sum_renumbered {n} r f = sym (sum_same numbers _ _ n row) ∙ sum_exchange at n n ∙ sum_same numbers _ _ n column
    where
      at : ℕ → ℕ → N
      at i k = cond (eqb k (r.old i)) (f k) numbers.none

      here : (i k : ℕ) → k ≡ r.old i → at i k ≡ f k
      here i k e = ap (λ b. cond b (f k) numbers.none) (eq-eqb k (r.old i) e)

      apart : (i k : ℕ) → (k ≡ r.old i → ⊥) → at i k ≡ numbers.none
      apart i k e = ap (λ b. cond b (f k) numbers.none) (ne_eqb k (r.old i) e)

      row : (i : ℕ) → i < n → sum_of numbers (at i) n ≡ f (r.old i)
      row i h = sum_single (at i) (r.old i) n (r.old_below i h) (apart i) ∙ here i (r.old i) refl

      elsewhere : (k i : ℕ) → (i ≡ r.new k → ⊥) → at i k ≡ numbers.none
      elsewhere k i e = apart i k (λ q. e (sym (r.new_old i) ∙ ap r.new (sym q)))

      column : (k : ℕ) → k < n → sum_of numbers (λ i. at i k) n ≡ f k
      column k h = sum_single (λ i. at i k) (r.new k) n (r.new_below k h) (elsewhere k) ∙ here (r.new k) k (sym (r.old_new k))

  -- the double sum of numbers of which each pair cancels is none
  pub sum_opposites : (f : ℕ → ℕ → N) (n : ℕ) → ((i j : ℕ) → numbers.plus (f i j) (f j i) ≡ numbers.none) →
      ((i : ℕ) → f i i ≡ numbers.none) → sum_of numbers (λ i. sum_of numbers (f i) n) n ≡ numbers.none
  unfolding sum_of
  sum_opposites f zero opposite alone = refl
  sum_opposites f (suc n) opposite alone =
      ap (numbers.plus _) (sum-plus (λ i. f i n) _ n ∙ ap (numbers.plus _) (sum_opposites f n opposite alone))
      ∙ simp (sum_suc, alone n, laws.none-plus, plus_none) pairs
    where
      pairs : numbers.plus (sum_of numbers (f n) n) (sum_of numbers (λ i. f i n) n) ≡ numbers.none
      pairs = sym (sum-plus (f n) (λ i. f i n) n) ∙ sum_none _ n (λ i h. opposite n i)
