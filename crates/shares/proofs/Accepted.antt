-- Rows that hold each body once are told nothing, and what they carry is the state after them.
use Rattle.std.proofs.Common.{◌≡◌, ℕ, zero, suc, ◌+◌, ◌*◌, ◌%◌, ◌^◌, ◌<◌, ◌≤◌, true, false, cond, ◌&&◌, ◌||◌, eqb, ◌⊎◌, List, sym, refl, ap, ◌∙◌, inl, inr, mod-eq_of_lt, arith, eq-eqb, ne_eqb}
use Rattle.std.proofs.Math.Bool.{or-true}
use Rattle.std.proofs.lemmas.Bool.Decides.{eqb_tells}
use Rattle.words.specs.Words.{Word, word}
use Rattle.words.proofs.Wrapping.{same_word}
use Rattle.motion.specs.Memory.{state_of, held, inside, position_at, momentum_at}
use Rattle.motion.specs.Refusals.{Told, good, refused}
use Rattle.motion.specs.Systems.{WordsState}
use Rattle.motion.proofs.WholeSteps.{exists, held_inside, held_outside}
use Rattle.shares.specs.Rows.{row_body, rows_in, RowOf}
use Rattle.shares.specs.Taking.{seen, all_seen, rows_from, checking, taking, EachOnce, Taken}
use Rattle.shares.specs.Together.{RowsOf}
use Rattle.shares.proofs.TakenRows.{not_faulty, ending_good, taking_rows}

-- a body with a row is seen, and one without is not
seen_there : (rows : List ℕ) (k b j : ℕ) → j < k → row_body rows j ≡ b → seen rows k b ≡ true
unfolding seen
seen_there rows zero b j h e = absurd (omega arith)
seen_there rows (suc k) b j h e = elim (eqb_tells j k) [
  | inl t ↦ ap (λ y. seen rows k b || y) (eq-eqb (row_body rows k) b (ap (row_body rows) (sym t.1) ∙ e)) ∙ or-true (seen rows k b)
  | inr t ↦ ap (λ x. x || eqb (row_body rows k) b) (seen_there rows k b j (omega arith) e)
]

seen_nowhere : (rows : List ℕ) (k b : ℕ) → ((j : ℕ) → j < k → row_body rows j ≡ b → ⊥) → seen rows k b ≡ false
unfolding seen
seen_nowhere rows zero b none = refl
seen_nowhere rows (suc k) b none = λ i.
    seen_nowhere rows k b (λ j h. none j (omega arith)) i || ne_eqb (row_body rows k) b (none k (omega arith)) i

all_there : (rows : List ℕ) (k n : ℕ) → ((b : ℕ) → b < n → seen rows k b ≡ true) → all_seen rows k n ≡ true
unfolding all_seen
all_there rows k zero each = refl
all_there rows k (suc n) each = λ i. all_there rows k n (λ b h. each b (omega arith)) i && each n (omega arith) i

module _ (n : ℕ) (rows : List ℕ) (once : EachOnce n rows) where
  from_row : (left k : ℕ) → left + k ≡ rows_in rows → rows_from n rows left k ≡ good tt
  unfolding rows_from
  from_row zero k e =
      ending_good n rows (let x = once.exact in omega arith)
      (all_there rows (rows_in rows) n (λ b h. let found = once.everyone b h in seen_there rows (rows_in rows) b found.0 found.1 found.2))
  from_row (suc left) k e =
      let fresh = seen_nowhere rows k (row_body rows k) (λ j h. once.distinct.apart j k h (omega arith)) in
      let fine = not_faulty n rows k (once.distinct.below k (omega arith)) fresh in
      ap (λ t. cond t (refused 9 k) (rows_from n rows left (k + 1))) fine ∙ from_row left (k + 1) (omega arith)

  pub accepted : checking n rows ≡ good tt
  accepted = from_row (rows_in rows) 0 (omega arith)

-- what is told to be good is no refusal
pub never : {X : Type 0} (a b : ℕ) (x : X) (t : Told X) → refused a b ≡ t → good x ≡ t → ⊥
never a b x t e f = let z : ◌≡◌ {A = ℕ} 0 1 = cc in omega arith

-- rows of the state s, taken in, leave the state s
pub state_taken : (n : ℕ) (s : WordsState) (rows before after : List ℕ) → ((b a : ℕ) → (3 ≤ a) ⊎ (n ≤ b) → inside n b a ≡ false → (s.position b a ≡ word 64 0) × (s.momentum b a ≡ word 64 0)) →
    ((k : ℕ) → k < rows_in rows → RowOf s (row_body rows k) rows k) → Taken n rows before after → state_of n after ≡ s
state_taken n s rows before after none carried taken = λ i. record { position = λ b a. place b a i; momentum = λ b a. drive b a i }
  where
    value : (m : ℕ) (w : Word 64) → m ≡ w.value → word 64 m ≡ w
    value m w e = same_word (ap (λ x. x % 2 ^ 64) e ∙ mod-eq_of_lt w.small)

    place : (b a : ℕ) → held n (position_at after) b a ≡ s.position b a
    place b a = elim (exists n b a) [
      | inl e ↦ let found = taken.once.everyone b e.1 in
          held_inside n (position_at after) b a e.2 ∙ value _ _ (ap (λ c. position_at after c a) (sym found.2) ∙ taken.words.positions found.0 found.1 a e.0
          ∙ (carried found.0 found.1).positions a e.0 ∙ ap (λ c. (s.position c a).value) found.2)
      | inr e ↦ held_outside n (position_at after) b a e.1 ∙ sym (none b a e.0 e.1).0
    ]

    drive : (b a : ℕ) → held n (momentum_at after) b a ≡ s.momentum b a
    drive b a = elim (exists n b a) [
      | inl e ↦ let found = taken.once.everyone b e.1 in
          held_inside n (momentum_at after) b a e.2 ∙ value _ _ (ap (λ c. momentum_at after c a) (sym found.2) ∙ taken.words.momenta found.0 found.1 a e.0
          ∙ (carried found.0 found.1).momenta a e.0 ∙ ap (λ c. (s.momentum c a).value) found.2)
      | inr e ↦ held_outside n (momentum_at after) b a e.1 ∙ sym (none b a e.0 e.1).1
    ]

-- rows of a state are not refused
pub rows_accepted : (n : ℕ) (s : WordsState) (rows : List ℕ) (state : ℕ) → RowsOf n s rows → 6 * n ≤ state → good tt ≡ taking n rows state
rows_accepted n s rows state all h = taking_rows n rows state h (sym (accepted n rows all.once))
