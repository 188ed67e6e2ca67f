-- Bodies that move one after the other: each write changes the positions of one body.
use Rattle.std.proofs.Common.{◌≡◌, ℕ, ◌+◌, ◌*◌, ◌<◌, ◌≤◌, Bool, false, List, length, sym, ap, ◌∙◌, inl, inr, true≢false, arith, w64}
use borrow.Rule.Slice.PartMut.{put_mid}
use Rattle.std.specs.List.{between}
use Rattle.std.proofs.lemmas.Bool.Decides.{eqb_tells}
use Rattle.words.specs.Signed.{divided}
use Rattle.motion.specs.Changes.{moved, Drifted, AllDrifted}
use Rattle.motion.specs.Systems.{mass_of}
use Rattle.motion.specs.declared.system.System.{System}
use Rattle.motion.specs.declared.turn.Direction.{Direction}
use Rattle.motion.proofs.BodyWords.{part_reads, own_part, other_part}

module _ (system : System) (direction : Direction) (who : ℕ → Bool) where
  module _ (b : ℕ) (xs ys : List ℕ) (all : AllDrifted system direction who b xs ys) where
    -- all bodies below b, with body b, to whose part zs was written
    pub drifted_more : (zs : List ℕ) (m s : ℕ) → 6 * b + 6 ≤ length ys → length zs ≡ 6 → s ≡ 6 → m ≡ mass_of system b →
        Drifted direction m (between (6 * b) (6 * b + 6) ys) zs → AllDrifted system direction who (b + 1) xs (put_mid (6 * b) s ys zs)
    drifted_more zs m s room six s-is mass one =
        let own = own_part ys b room zs six s s-is in
        let other = other_part ys b room zs six s s-is in
        let was = part_reads ys b room in
        record {
          momenta = λ c a h. let k : 2 * a + 1 < 6 = omega arith in elim (eqb_tells c b) [
            | inl t ↦ rw t.1 (own (2 * a + 1) k ∙ one.momenta a h ∙ was (2 * a + 1) k ∙ all.momenta b a h)
            | inr t ↦ other c t.1 (2 * a + 1) k ∙ all.momenta c a h
          ];
          done = λ c below named a h.
              let k : 2 * a < 6 = omega arith in
              let k' : 2 * a + 1 < 6 = omega arith in
              elim (eqb_tells c b) [
                | inl t ↦ rw t.1 (own (2 * a) k ∙ one.positions a h
                    ∙ (λ i. moved direction ((was (2 * a) k ∙ all.rest b (omega arith) a h) i) (divided w64 ((was (2 * a + 1) k' ∙ all.momenta b a h) i) (mass i))))
                | inr t ↦ other c t.1 (2 * a) k ∙ all.done c (omega arith) named a h
              ];
          rest = λ c above a h. let k : 2 * a < 6 = omega arith in other c (omega arith) (2 * a) k ∙ all.rest c (omega arith) a h;
        }

    -- a body that is not named is passed over
    pub drifted_skip : who b ≡ false → AllDrifted system direction who (b + 1) xs ys
    drifted_skip out = record {
      momenta = all.momenta;
      done = λ c h named a k. elim (eqb_tells c b) [
        | inl t ↦ absurd (true≢false (sym named ∙ ap who t.1 ∙ out))
        | inr t ↦ all.done c (omega arith) named a k
      ];
      rest = λ c h a k. all.rest c (omega arith) a k;
    }
