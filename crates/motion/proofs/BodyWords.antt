-- A body's six words as a part of the whole: what the part reads, and what a write to it leaves.
use Rattle.std.proofs.Common.{◌≡◌, ℕ, ◌+◌, ◌*◌, ◌<◌, ◌≤◌, List, length, get_or, arith, rules}
use borrow.Rule.Slice.PartMut.{put_mid}
use Rattle.std.specs.List.{between}
use Rattle.std.proofs.lemmas.List.Edits.{get_or-between}
use Rattle.std.proofs.lemmas.List.{places}

module _ (xs : List ℕ) (b : ℕ) (fits : 6 * b + 6 ≤ length xs) where
  -- the part reads what the whole has
  pub part_reads : (k : ℕ) → k < 6 → get_or (between (6 * b) (6 * b + 6) xs) k 0 ≡ get_or xs (6 * b + k) 0
  part_reads k h = get_or-between xs (6 * b) (6 * b + 6) k 0 (omega arith)

  module _ (ys : List ℕ) (six : length ys ≡ 6) where
    -- after a write the body has the new words
    pub own_part : (s : ℕ) → s ≡ 6 → (k : ℕ) → k < 6 → get_or (put_mid (6 * b) s xs ys) (6 * b + k) 0 ≡ get_or ys k 0
    own_part s e k h = search (rules, places)

    -- and every other body its old ones
    pub other_part : (s : ℕ) → s ≡ 6 → (c : ℕ) → (c ≡ b → ⊥) → (k : ℕ) → k < 6 → get_or (put_mid (6 * b) s xs ys) (6 * c + k) 0 ≡ get_or xs (6 * c + k) 0
    other_part s e c apart k h = grind (arith, places)
