-- Steps of a share: one body after the other gets its impulses and moves, as in a step of all.
use Rattle.std.proofs.Common.{◌≡◌, ℕ, ◌+◌, ◌*◌, ◌^◌, ◌<◌, ◌≤◌, Bool, false, List, length, get_or, sym, refl, ap, ◌∙◌, inl, inr, true≢false, arith}
use borrow.Rule.Slice.PartMut.{put_mid}
use Rattle.std.specs.List.{between}
use Rattle.std.proofs.lemmas.Bool.Decides.{eqb_tells}
use Rattle.distance.specs.Axes.{along}
use Rattle.motion.specs.Changes.{moved, impulse_at, Kicked, Received, Pulled, member, ShareKicked}
use Rattle.motion.specs.Memory.{momentum_at}
use Rattle.motion.specs.declared.system.System.{System}
use Rattle.motion.specs.declared.turn.Direction.{Direction}
use Rattle.motion.proofs.BodyWords.{part_reads, own_part, other_part}
use Rattle.motion.proofs.Kicks.{moved_more, moved_none, gathered_none, gathered_more, gathered_word, impulse_word, impulse_stays, gathered_stays}

-- ys was written to the part of body b: the others keep theirs
pub received : (system : System) (direction : Direction) (b j s : ℕ) (xs ys fs : List ℕ) → 6 * b + 6 ≤ length xs → length ys ≡ 6 → s ≡ 6 →
    Kicked direction (along fs) (between (6 * b) (6 * b + 6) xs) ys → ((a : ℕ) → a < 3 → along fs a ≡ impulse_at system xs a b j) →
    Received system direction b j xs (put_mid (6 * b) s xs ys)
received system direction b j s xs ys fs room six s-is kick gives =
    let own = own_part xs b room ys six s s-is in
    let other = other_part xs b room ys six s s-is in
    let was = part_reads xs b room in
    record {
      positions = λ c a h. let k : 2 * a < 6 = omega arith in elim (eqb_tells c b) [
        | inl t ↦ rw t.1 (own (2 * a) k ∙ kick.positions a h ∙ was (2 * a) k)
        | inr t ↦ other c t.1 (2 * a) k
      ];
      own = λ a h. let k : 2 * a + 1 < 6 = omega arith in
          own (2 * a + 1) k ∙ kick.momenta a h ∙ (λ i. moved direction (was (2 * a + 1) k i) (gives a h i));
      others = λ c ne a h. let k : 2 * a + 1 < 6 = omega arith in other c ne (2 * a + 1) k;
    }

-- no impulse yet
pub pulled_none : (system : System) (direction : Direction) (b : ℕ) (xs : List ℕ) → ((k : ℕ) → get_or xs k 0 < 2 ^ 64) → Pulled system direction b 0 xs xs
pulled_none system direction b xs words = record {
  positions = λ _ _ _. refl;
  own = λ a h. moved_none direction _ (words _) ∙ ap (moved direction (momentum_at xs b a)) (sym (gathered_none system xs a b));
  others = λ _ _ _ _. refl;
}

-- the impulses from the bodies below j, and that from body j
pub pulled_more : (system : System) (direction : Direction) (b j : ℕ) (xs ys zs : List ℕ) →
    Pulled system direction b j xs ys → Received system direction b j ys zs → Pulled system direction b (j + 1) xs zs
pulled_more system direction b j xs ys zs all one = record {
  positions = λ c a h. one.positions c a h ∙ all.positions c a h;
  own = λ a h.
      one.own a h ∙ (λ l. moved direction (all.own a h l) (impulse_stays system xs ys all.positions a b j l))
      ∙ moved_more direction _ _ _ (gathered_word system xs a b j) (impulse_word system xs a b j)
      ∙ ap (moved direction (momentum_at xs b a)) (sym (gathered_more system xs a b j));
  others = λ c ne a h. one.others c ne a h ∙ all.others c ne a h;
}

module _ (system : System) (direction : Direction) (share : List Bool) (b : ℕ) (xs ys : List ℕ) where
  -- a body of the share more
  pub share_kicked_more : (zs : List ℕ) → ShareKicked system direction share b xs ys → Pulled system direction b system.count ys zs →
      ShareKicked system direction share (b + 1) xs zs
  share_kicked_more zs all one = record {
    positions = λ c a h. one.positions c a h ∙ all.positions c a h;
    done = λ c h in-share a k. elim (eqb_tells c b) [
      | inl t ↦ rw t.1 (one.own a k
          ∙ (λ l. moved direction (all.rest b (omega arith) a k l) (gathered_stays system xs ys all.positions a b system.count l)))
      | inr t ↦ one.others c t.1 a k ∙ all.done c (omega arith) in-share a k
    ];
    rest = λ c h a k. one.others c (omega arith) a k ∙ all.rest c (omega arith) a k;
  }

  -- a body more that is not in the share
  pub share_kicked_skip : member share b ≡ false → ShareKicked system direction share b xs ys → ShareKicked system direction share (b + 1) xs ys
  share_kicked_skip out all = record {
    positions = all.positions;
    done = λ c h in-share a k. elim (eqb_tells c b) [
      | inl t ↦ absurd (true≢false (sym in-share ∙ ap (member share) t.1 ∙ out))
      | inr t ↦ all.done c (omega arith) in-share a k
    ];
    rest = λ c h a k. all.rest c (omega arith) a k;
  }
