-- Rows that are written one behind the other: a new row leaves those before it as they are.
use Rattle.std.proofs.Common.{◌≡◌, ℕ, ◌+◌, ◌*◌, ◌<◌, ◌≤◌, Bool, true, List, ◌++◌, length, get_or, drop, sym, ap, ◌∙◌, inl, inr, add-zero, add_assoc, arith, rules, le-ltb}
use borrow.Rule.Slice.PartMut.{put_mid}
use Rattle.std.proofs.lemmas.List.{places}
use Rattle.std.proofs.lemmas.Bool.Decides.{eqb_tells}
use Rattle.motion.specs.Changes.{member, ShareHolds}
use Rattle.motion.specs.Refusals.{good}
use Rattle.motion.specs.Systems.{WordsState}
use Rattle.motion.specs.Memory.{state_length}
use Rattle.shares.specs.Rows.{word_at, row_body, RowWritten, RowsWritten, Sent, members, sending}
use Rattle.shares.proofs.Members.{members_within}
use Rattle.words.proofs.Placed.{placed_own, placed_other}
use Rattle.words.proofs.InBytes.{number_moved, number_stays}

pub rows_none : (share : List Bool) (words rows : List ℕ) → RowsWritten share words 0 rows
rows_none share words rows = record {
  numbers = λ b h. absurd (omega arith);
  momenta = λ b h. absurd (omega arith);
  positions = λ b h. absurd (omega arith);
}

-- ys was written at `at`, the place of the row of body b
module _ (share : List Bool) (words rows ys : List ℕ) (b at s : ℕ) (all : RowsWritten share words b rows) (place : at ≡ 49 * members share b)
    (s-is : s ≡ 49) (room : at + s ≤ length rows) (long : length ys ≡ s) (six : List ℕ)
    (part : (i : ℕ) → i < 6 → get_or six i 0 ≡ get_or words (6 * b + i) 0) (one : RowWritten six b ys) where
  after : List ℕ
  after = put_mid at s rows ys

  -- the new row
  new_word : (from : ℕ) → from + 8 ≤ 49 → word_at after (49 * members share b + from) ≡ word_at ys from
  unfolding after
  new_word from h =
      ap (λ k. word_at (put_mid at s rows ys) (k + from)) (sym place)
      ∙ number_moved 8 (put_mid at s rows ys) ys (at + from) from
      (λ k l. ap (λ j. get_or (put_mid at s rows ys) j 0) (add_assoc at from k) ∙ placed_own at s rows ys room long (from + k) (omega arith))

  new_body : row_body after (members share b) ≡ b
  unfolding after
  new_body =
      ap (λ k. get_or (put_mid at s rows ys) k 0) (sym place ∙ sym (add-zero at)) ∙ placed_own at s rows ys room long 0 (omega arith) ∙ one.number

  -- the rows before it
  old_byte : (c k : ℕ) → c < b → member share c ≡ true → k < 49 * members share c + 49 → get_or after k 0 ≡ get_or rows k 0
  unfolding after
  old_byte c k h in-share l = let m = members_within share c b in-share h in placed_other at s rows ys room long k (inl (omega arith))

  old_word : (c from : ℕ) → c < b → member share c ≡ true → from + 8 ≤ 49 → word_at after (49 * members share c + from) ≡ word_at rows (49 * members share c + from)
  old_word c from h in-share f = number_stays 8 after rows (49 * members share c + from) (λ k l m. old_byte c k h in-share (omega arith))

  pub rows_more : RowsWritten share words (b + 1) (put_mid at s rows ys)
  unfolding after
  rows_more = record {
    numbers = λ c h in-share. elim (eqb_tells c b) [
      | inl t ↦ rw t.1 new_body
      | inr t ↦ old_byte c (49 * members share c) (omega arith) in-share (omega arith) ∙ all.numbers c (omega arith) in-share
    ];
    momenta = λ c h in-share a k. elim (eqb_tells c b) [
      | inl t ↦ rw t.1 (new_word (1 + 8 * a) (omega arith) ∙ one.momenta a k ∙ part (2 * a + 1) (omega arith))
      | inr t ↦ old_word c (1 + 8 * a) (omega arith) in-share (omega arith) ∙ all.momenta c (omega arith) in-share a k
    ];
    positions = λ c h in-share a k. elim (eqb_tells c b) [
      | inl t ↦ rw t.1 (new_word (25 + 8 * a) (omega arith) ∙ one.positions a k ∙ part (2 * a) (omega arith))
      | inr t ↦ old_word c (25 + 8 * a) (omega arith) in-share (omega arith) ∙ all.positions c (omega arith) in-share a k
    ];
  }

-- a body that is not in the share has no row
pub rows_skip : (share : List Bool) (words rows : List ℕ) (b : ℕ) → (member share b ≡ true → ⊥) → RowsWritten share words b rows → RowsWritten share words (b + 1) rows
rows_skip share words rows b out all = record {
  numbers = λ c h in-share. all.numbers c (below c h in-share) in-share;
  momenta = λ c h in-share. all.momenta c (below c h in-share) in-share;
  positions = λ c h in-share. all.positions c (below c h in-share) in-share;
}
  where
    below : (c : ℕ) → c < b + 1 → member share c ≡ true → c < b
    below c h in-share = elim (eqb_tells c b) [ inl t ↦ absurd (out (ap (member share) (sym t.1) ∙ in-share)) | inr t ↦ omega arith ]

-- rows that lie in front of other bytes, written by the words of a share's bodies in the state s
pub sent : (n : ℕ) (share : List Bool) (s : WordsState) (words whole rows ys zs : List ℕ) (size : ℕ) → size ≡ 49 * members share n → length ys ≡ size →
    RowsWritten share words n ys → ShareHolds n share s whole → ((k : ℕ) → k < 6 * n → get_or words k 0 ≡ get_or whole k 0) →
    drop size (ys ++ zs) ≡ drop size rows → Sent n share s size rows (ys ++ zs)
sent n share s words whole rows ys zs size size_is long written holds same behind = record {
  size = size_is;
  rows = λ b h in-share. record {
    body = front b (49 * members share b) h in-share (omega arith) ∙ written.numbers b h in-share;
    momenta = λ a k. word b (1 + 8 * a) h in-share (omega arith) ∙ written.momenta b h in-share a k
        ∙ same (6 * b + (2 * a + 1)) (omega arith) ∙ holds.momenta b h in-share a k;
    positions = λ a k. word b (25 + 8 * a) h in-share (omega arith) ∙ written.positions b h in-share a k
        ∙ same (6 * b + 2 * a) (omega arith) ∙ holds.positions b h in-share a k;
  };
  behind = behind;
}
  where
    front : (b k : ℕ) → b < n → member share b ≡ true → k < 49 * members share b + 49 → get_or (ys ++ zs) k 0 ≡ get_or ys k 0
    front b k h in-share l = let m = members_within share b n in-share h in let p : k < length ys = omega arith in search (rules, places)

    word : (b from : ℕ) → b < n → member share b ≡ true → from + 8 ≤ 49 → word_at (ys ++ zs) (49 * members share b + from) ≡ word_at ys (49 * members share b + from)
    word b from h in-share f = number_stays 8 (ys ++ zs) ys (49 * members share b + from) (λ k l m. front b k h in-share (omega arith))

-- slices that are long enough are not refused
pub sending_all : (n : ℕ) (share : List Bool) (state work rows size : ℕ) → size ≡ 49 * members share n → state_length n ≤ state → state_length n ≤ work → size ≤ rows →
    good size ≡ sending n share state work rows
sending_all n share state work rows size e h k l =
    rw (le-ltb state (state_length n) h) (rw (le-ltb work (state_length n) k) (rw (le-ltb rows (49 * members share n) (omega arith)) (ap good e)))
