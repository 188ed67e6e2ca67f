-- Each turn writes two words more, clear of those before.
use Rattle.std.proofs.Common.{◌≡◌, ℕ, ◌+◌, ◌*◌, ◌<◌, length, get_or, ◌∙◌, inl, inr, arith, rules}
use Rattle.std.proofs.lemmas.Bool.Decides.{eqb_tells}
use Rattle.words.proofs.InBytes.{number_read}
use Rattle.shares.specs.Rows.{word_at}
use Rattle.shares.proofs.TakenRows.{odd_same, even_same, other_same}
use Rattle.shares.proofs.taking.take_row.Goals as goal

pub loop-a-preserved : goal.loop-a-preserved
loop-a-preserved c =
    let row = c.args.row.now in
    let ws = c.loop-a.words in
    let a = c.loop-a.a in
    let u = c.number_in.result in
    let v = c.number_in-in-loop-a.result in
    let long : length ws ≡ 6 = omega arith in
    let axis : a < 3 = omega arith in
    let whole : length row ≡ 49 = search rules in
    let small : (j : ℕ) → get_or row j 0 < 256 = λ j. omega (arith, c.fits-row j) in
    let momentum : u ≡ word_at row (1 + 8 * a) =
    c.number_in.ensures.value ∙ number_read 8 row (1 + 8 * a) (9 + 8 * a) (omega arith) (omega arith) (omega arith) small in
    let position : v ≡ word_at row (25 + 8 * a) =
    c.number_in-in-loop-a.ensures.value ∙ number_read 8 row (25 + 8 * a) (33 + 8 * a) (omega arith) (omega arith) (omega arith) small in (
      (λ k h. elim (eqb_tells k a) [
        | inl t ↦ rw t.1 (odd_same ws a u v long axis ∙ momentum)
        | inr t ↦ other_same ws a u v long axis (2 * k + 1) (omega arith) (omega arith) ∙ c.loop-a.invariant.0 k (omega arith)
      ]),
      (λ k h. elim (eqb_tells k a) [
        | inl t ↦ rw t.1 (even_same ws a u v long axis ∙ position)
        | inr t ↦ other_same ws a u v long axis (2 * k) (omega arith) (omega arith) ∙ c.loop-a.invariant.1 k (omega arith)
      ]),
    )
