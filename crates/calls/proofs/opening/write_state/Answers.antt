-- Each turn writes the words of one body more.
use Rattle.std.proofs.Common.{◌≡◌, ◌+◌, ◌-◌, ◌*◌, ◌≤◌, length, sym, refl, subst, arith, rules}
use Rattle.std.proofs.lemmas.List.{places}
use Rattle.calls.specs.Opening.{BodyWritten}
use Rattle.calls.proofs.Opened.{bodies_one_more}
use Rattle.calls.proofs.opening.write_state.Goals as goal

pub loop-body-preserved : goal.loop-body-preserved
loop-body-preserved c =
    let b = c.loop-body.body in
    let at = c.body_at-at.result in
    let room : 6 * b + 6 ≤ length c.loop-body.state = omega arith in
    let six : length c.copy_from_slice.new.self ≡ 6 = search (rules, places) in
    bodies_one_more c.args.bytes.now b at (at + 50) (6 * b + 6 - 6 * b) c.args.state.now c.loop-body.state c.copy_from_slice.new.self
    c.body_at-at.ensures refl (omega arith) room six c.loop-body.invariant (subst (BodyWritten _) (sym c.copy_from_slice.ensures.after) c.body_words-words.ensures)
