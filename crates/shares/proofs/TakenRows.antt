-- Rows that are looked through and then written: each body has one row, so no write spoils another.
use Rattle.std.proofs.Common.{◌≡◌, ℕ, zero, suc, ◌+◌, ◌-◌, ◌*◌, ◌%◌, ◌<◌, ◌≤◌, true, false, cond, eqb, ◌≢◌, List, length, get_or, set, sym, refl, ap, ◌∙◌, inl, inr, true≢false, add_assoc, arith, length-set, get_or-set_other, get_or-set_same, le-ltb, lt-ltb, eq-eqb}
use borrow.Rule.Slice.PartMut.{put_mid}
use Rattle.std.proofs.lemmas.Bool.{and_parts, or_cases, or_parts}
use Rattle.std.proofs.lemmas.Bool.Decides.{eqb_tells}
use Rattle.motion.proofs.BodyWords.{own_part, other_part}
use Rattle.words.proofs.InBytes.{number_moved}
use Rattle.motion.specs.Refusals.{good, refused}
use Rattle.shares.specs.Rows.{word_at, row_body, rows_in, rows_of}
use Rattle.shares.proofs.Chunks.{get_or-rows_of}
use Rattle.shares.specs.Taking.{seen, all_seen, faulty, ending, rows_from, checking, taking, Distinct, EachOnce, RowTaken, RowsTaken}

-- two words written for axis a
module _ (ws : List ℕ) (a u v : ℕ) (long : length ws ≡ 6) (axis : a < 3) where
  pub odd_same : get_or (set (set ws (2 * a + 1) u) (2 * a) v) (2 * a + 1) 0 ≡ u
  odd_same =
      let ne : 2 * a + 1 ≢ 2 * a = omega arith in
      let within : 2 * a + 1 < length ws = omega arith in
      rw (get_or-set_other, get_or-set_same)

  pub even_same : get_or (set (set ws (2 * a + 1) u) (2 * a) v) (2 * a) 0 ≡ v
  even_same = let within : 2 * a < length (set ws (2 * a + 1) u) = rw length-set (omega arith) in rw get_or-set_same

  pub other_same : (k : ℕ) → (k ≡ 2 * a + 1 → ⊥) → (k ≡ 2 * a → ⊥) → get_or (set (set ws (2 * a + 1) u) (2 * a) v) k 0 ≡ get_or ws k 0
  other_same k ne ne' = rw (get_or-set_other, get_or-set_other)

-- what is seen and what is not
pub not_seen : (rows : List ℕ) (k b : ℕ) → seen rows k b ≡ false → (j : ℕ) → j < k → row_body rows j ≡ b → ⊥
unfolding seen
not_seen rows zero b e j h same = absurd (omega arith)
not_seen rows (suc k) b e j h same =
    let parts = or_parts (seen rows k b) (eqb (row_body rows k) b) e in
    elim (eqb_tells j k) [
      | inl t ↦ elim (eqb_tells (row_body rows k) b) [
        | inl u ↦ true≢false (sym u.0 ∙ parts.1)
        | inr u ↦ u.1 (ap (row_body rows) (sym t.1) ∙ same)
      ]
      | inr t ↦ not_seen rows k b parts.0 j (omega arith) same
    ]

pub seen_where : (rows : List ℕ) (k b : ℕ) → seen rows k b ≡ true → (j : ℕ) × (j < k) × (row_body rows j ≡ b)
unfolding seen
seen_where rows zero b e = absurd (true≢false (sym e))
seen_where rows (suc k) b e = elim (or_cases (seen rows k b) (eqb (row_body rows k) b) e) [
  | inl t ↦ let found = seen_where rows k b t in (found.0, omega arith, found.2)
  | inr t ↦ (k, omega arith, elim (eqb_tells (row_body rows k) b) [ inl u ↦ u.1 | inr u ↦ absurd (true≢false (sym t ∙ u.0)) ])
]

all_seen_each : (rows : List ℕ) (k n : ℕ) → all_seen rows k n ≡ true → (b : ℕ) → b < n → seen rows k b ≡ true
unfolding all_seen
all_seen_each rows k zero e b h = absurd (omega arith)
all_seen_each rows k (suc n) e b h =
    let parts = and_parts (all_seen rows k n) (seen rows k n) e in
    elim (eqb_tells b n) [ inl t ↦ ap (seen rows k) t.1 ∙ parts.1 | inr t ↦ all_seen_each rows k n parts.0 b (omega arith) ]

module _ (n : ℕ) (rows : List ℕ) where
  -- the first faulty row is told
  pub fault_here : (total k : ℕ) → k < total → faulty n rows k ≡ true → rows_from n rows (total - k) k ≡ refused 9 k
  unfolding rows_from
  fault_here total k h e = let left : total - k ≡ suc (total - (k + 1)) = omega arith in rw left (ap (λ t. cond t (refused 9 k) (rows_from n rows (total - (k + 1)) (k + 1))) e)

  -- a row without fault is passed over
  pub no_fault : (total k : ℕ) → k < total → faulty n rows k ≡ false → rows_from n rows (total - k) k ≡ rows_from n rows (total - (k + 1)) (k + 1)
  unfolding rows_from
  no_fault total k h e = let left : total - k ≡ suc (total - (k + 1)) = omega arith in rw left (ap (λ t. cond t (refused 9 k) (rows_from n rows (total - (k + 1)) (k + 1))) e)

  -- behind the last whole row
  pub rows_over : (total k : ℕ) → total ≤ k → rows_from n rows (total - k) k ≡ ending n rows
  unfolding rows_from
  rows_over total k h = let left : total - k ≡ 0 = omega arith in rw left refl

  pub distinct_more : (k : ℕ) → row_body rows k < n → seen rows k (row_body rows k) ≡ false → Distinct n rows k → Distinct n rows (k + 1)
  distinct_more k within fresh all = record {
    below = λ j h. elim (eqb_tells j k) [ inl t ↦ rw t.1 within | inr t ↦ all.below j (omega arith) ];
    apart = λ i j l h same. elim (eqb_tells j k) [
      | inl t ↦ not_seen rows k (row_body rows k) fresh i (omega arith) (same ∙ ap (row_body rows) t.1)
      | inr t ↦ all.apart i j l (omega arith) same
    ];
  }

  -- a row's faults
  pub beyond_faulty : (k : ℕ) → n ≤ row_body rows k → faulty n rows k ≡ true
  beyond_faulty k h = rw (le-ltb (row_body rows k) n h) refl

  pub seen_faulty : (k : ℕ) → row_body rows k < n → seen rows k (row_body rows k) ≡ true → faulty n rows k ≡ true
  seen_faulty k h e = rw (lt-ltb (row_body rows k) n h) e

  pub not_faulty : (k : ℕ) → row_body rows k < n → seen rows k (row_body rows k) ≡ false → faulty n rows k ≡ false
  not_faulty k h e = rw (lt-ltb (row_body rows k) n h) e

  -- rows without fault, of whole length, that show everybody
  pub each_once : Distinct n rows (rows_in rows) → length rows % 49 ≡ 0 → all_seen rows (rows_in rows) n ≡ true → EachOnce n rows
  each_once distinct whole all = record {
    exact = omega arith;
    distinct = distinct;
    everyone = λ b h. seen_where rows (rows_in rows) b (all_seen_each rows (rows_in rows) n all b h);
  }

  -- nothing is wrong behind the last row
  pub ending_good : length rows % 49 ≡ 0 → all_seen rows (rows_in rows) n ≡ true → ending n rows ≡ good tt
  ending_good whole all = rw (eq-eqb (length rows % 49) 0 whole) (rw all refl)

  -- a body has no row
  pub ending_missing : length rows % 49 ≡ 0 → all_seen rows (rows_in rows) n ≡ false → ending n rows ≡ refused 9 (rows_in rows)
  ending_missing whole missing = rw (eq-eqb (length rows % 49) 0 whole) (rw missing refl)

-- ys was written to the part of the body of row k
module _ (n k s : ℕ) (rows st ys : List ℕ) (once : EachOnce n rows) (row : k < rows_in rows) (long : 6 * n ≤ length st) (six : length ys ≡ 6) (s-is : s ≡ 6)
    (all : RowsTaken rows k st) (d : List ℕ) (one : RowTaken (get_or (rows_of rows) k d) ys) where
  room : 6 * row_body rows k + 6 ≤ length st
  room = let h = once.distinct.below k row in omega arith

  own : (i : ℕ) → i < 6 → get_or (put_mid (6 * row_body rows k) s st ys) (6 * row_body rows k + i) 0 ≡ get_or ys i 0
  own = own_part st (row_body rows k) room ys six s s-is

  old : (j : ℕ) → j < k → (i : ℕ) → i < 6 → get_or (put_mid (6 * row_body rows k) s st ys) (6 * row_body rows j + i) 0 ≡ get_or st (6 * row_body rows j + i) 0
  old j h = other_part st (row_body rows k) room ys six s s-is (row_body rows j) (once.distinct.apart j k h row)

  read : (from : ℕ) → from + 8 ≤ 49 → word_at (get_or (rows_of rows) k d) from ≡ word_at rows (49 * k + from)
  read from h = number_moved 8 (get_or (rows_of rows) k d) rows from (49 * k + from)
      (λ i l. get_or-rows_of rows k (from + i) d row (omega arith) ∙ ap (λ j. get_or rows j 0) (sym (add_assoc (49 * k) from i)))

  pub taken_more : RowsTaken rows (k + 1) (put_mid (6 * row_body rows k) s st ys)
  taken_more = record {
    momenta = λ j h a l. elim (eqb_tells j k) [
      | inl t ↦ rw t.1 (own (2 * a + 1) (omega arith) ∙ one.momenta a l ∙ read (1 + 8 * a) (omega arith))
      | inr t ↦ old j (omega arith) (2 * a + 1) (omega arith) ∙ all.momenta j (omega arith) a l
    ];
    positions = λ j h a l. elim (eqb_tells j k) [
      | inl t ↦ rw t.1 (own (2 * a) (omega arith) ∙ one.positions a l ∙ read (25 + 8 * a) (omega arith))
      | inr t ↦ old j (omega arith) (2 * a) (omega arith) ∙ all.positions j (omega arith) a l
    ];
  }

-- a long enough slice is told what the rows are told
pub taking_rows : (n : ℕ) (rows : List ℕ) (state : ℕ) → 6 * n ≤ state → good tt ≡ checking n rows → good tt ≡ taking n rows state
taking_rows n rows state h e = rw (le-ltb state (6 * n) h) e
