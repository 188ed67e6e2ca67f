-- Each turn writes two words more, clear of those before.
use Rattle.std.proofs.Common.{◌≡◌, ℕ, ◌+◌, ◌-◌, ◌*◌, ◌<◌, ◌≤◌, ◌⊎◌, length, get_or, ◌∙◌, inl, inr, arith, rules, ◌/◌, [], ap, add-zero}
use borrow.Rule.Slice.PartMut.{put_mid, mid_of}
use Rattle.std.proofs.lemmas.Bool.Decides.{eqb_tells}
use Rattle.std.proofs.lemmas.List.{places}
use Rattle.shares.specs.Rows.{word_at}
use Rattle.shares.proofs.Chunks.{get_or-first_chunks}
use Rattle.shares.proofs.Words.{word_own, byte_other, word_other}
use Rattle.shares.proofs.rows.write_row.Goals as goal

pub loop-a-preserved : goal.loop-a-preserved
loop-a-preserved c =
    let a = c.loop-a.a in
    let words = c.args.words.now in
    let p = 1 + 8 * a in
    let q = 25 + 8 * a in
    let s = 9 + 8 * a - p in
    let t = 33 + 8 * a - q in
    let r0 = c.loop-a.row in
    let ys = c.write_number.new.bytes in
    let zs = c.write_number-in-loop-a.new.bytes in
    let r1 = put_mid p s r0 ys in
    let r2 = put_mid q t r1 zs in
    let pair = get_or c.as_chunks.result.0.now a [] in
    let u = get_or pair 1 0 in
    let v = get_or pair 0 0 in
    let part : (i : ℕ) → i < 2 → get_or pair i 0 ≡ get_or words (2 * a + i) 0 =
    λ i l. ap (λ chunks. get_or (get_or chunks a []) i 0) c.as_chunks.ensures.front ∙ get_or-first_chunks 2 (length words / 2) words a i [] (omega arith) l in
    let u-is : u ≡ get_or words (2 * a + 1) 0 = part 1 (omega arith) in
    let v-is : v ≡ get_or words (2 * a) 0 = part 0 (omega arith) ∙ ap (λ i. get_or words i 0) (add-zero (2 * a)) in
    let eight : s ≡ 8 = omega arith in
    let eight' : t ≡ 8 = omega arith in
    let whole : length r0 ≡ 49 = c.loop-a.auto.row ∙ search rules in
    let room : p + s ≤ length r0 = omega arith in
    let size : length (mid_of p s r0) ≡ s = search (rules, places) in
    let whole' : length r1 ≡ length r0 = search (rules, places) in
    let room' : q + t ≤ length r1 = omega arith in
    let size' : length (mid_of q t r1) ≡ t = search (rules, places) in
    let momentum : word_at r1 p ≡ u = word_own p s _ r0 ys u eight room size c.write_number.ensures (omega (arith, u-is, c.fits-words (2 * a + 1))) in
    let position : word_at r2 q ≡ v = word_own q t _ r1 zs v eight' room' size' c.write_number-in-loop-a.ensures (omega (arith, v-is, c.fits-words (2 * a))) in
    let first : (k : ℕ) → (k + 8 ≤ p) ⊎ (p + 8 ≤ k) → word_at r1 k ≡ word_at r0 k = word_other p s _ r0 ys u eight room size c.write_number.ensures in
    let second : (k : ℕ) → (k + 8 ≤ q) ⊎ (q + 8 ≤ k) → word_at r2 k ≡ word_at r1 k = word_other q t _ r1 zs v eight' room' size' c.write_number-in-loop-a.ensures in
    let body = byte_other q t _ r1 zs v eight' room' size' c.write_number-in-loop-a.ensures 0 (inl (omega arith))
    ∙ byte_other p s _ r0 ys u eight room size c.write_number.ensures 0 (inl (omega arith)) ∙ c.loop-a.invariant.0 in (
      body,
      (λ k h. elim (eqb_tells k a) [
        | inl e ↦ rw e.1 (second p (inl (omega arith)) ∙ momentum ∙ u-is)
        | inr e ↦ second (1 + 8 * k) (inl (omega arith)) ∙ first (1 + 8 * k) (inl (omega arith)) ∙ c.loop-a.invariant.1 k (omega arith)
      ]),
      (λ k h. elim (eqb_tells k a) [
        | inl e ↦ rw e.1 (position ∙ v-is)
        | inr e ↦ second (25 + 8 * k) (inl (omega arith)) ∙ first (25 + 8 * k) (inr (omega arith)) ∙ c.loop-a.invariant.2 k (omega arith)
      ]),
    )
