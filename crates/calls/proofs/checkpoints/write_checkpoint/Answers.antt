-- Two words are written in front, and the state behind them.
use Rattle.std.proofs.Common.{◌≡◌, ◌-◌, ◌∷◌, length, set, ap, ◌∙◌, arith, length-set, w64, of_z}
use Rattle.std.proofs.lemmas.Int.{to_z-of_z}
use Rattle.calls.proofs.Kept.{two_in_front}
use Rattle.calls.proofs.checkpoints.write_checkpoint.Goals as goal

pub returns : goal.returns
returns c =
    let ws = c.args.words.now in
    let all = length (set (set ws 0 1) 1 c.cast_unsigned.result) in
    let same : all ≡ length ws = simp length-set in
    let time = c.cast_unsigned.ensures ∙ ap (of_z w64) (to_z-of_z w64 c.args.time c.ranges.time) in
    two_in_front ws 1 c.cast_unsigned.result c.copy_from_slice.new.self (all - 2) (omega arith) (omega arith)
    ∙ (λ i. 1 ∷ time i ∷ c.copy_from_slice.ensures.after i)
