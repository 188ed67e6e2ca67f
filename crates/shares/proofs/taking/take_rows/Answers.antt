-- Each turn writes one row more, to a body that no row before was of.
use Rattle.std.proofs.Common.{◌≡◌, ◌+◌, ◌-◌, ◌*◌, ◌/◌, ◌<◌, [], length, get_or, sym, ◌∙◌, subst, arith, rules}
use borrow.Rule.Slice.PartMut.{put_mid}
use Rattle.std.proofs.lemmas.List.{places}
use Rattle.shares.specs.Rows.{row_body, rows_in}
use Rattle.shares.specs.Taking.{RowTaken, RowsTaken}
use Rattle.shares.proofs.Chunks.{body_read}
use Rattle.shares.proofs.TakenRows.{taken_more}
use Rattle.shares.proofs.taking.take_rows.Goals as goal

pub slice_bounds-take_row-end : goal.slice_bounds-take_row-end
slice_bounds-take_row-end c =
    let bytes = c.args.bytes.now in
    let k = c.loop-row.row-index in
    let body = c.from-body.ensures ∙ body_read bytes c.as_chunks.result.0.now c.as_chunks.ensures.front k c.loop-row-test.true in
    omega (arith, c.requires.distinct.below k (omega arith))

pub loop-row-preserved : goal.loop-row-preserved
loop-row-preserved c =
    let bytes = c.args.bytes.now in
    let k = c.loop-row.row-index in
    let b = row_body bytes k in
    let n = length c.args.state.now / 6 in
    let ys = c.take_row.new.words in
    let row : k < rows_in bytes = omega arith in
    let body : c.from-body.result ≡ b = c.from-body.ensures ∙ body_read bytes c.as_chunks.result.0.now c.as_chunks.ensures.front k c.loop-row-test.true in
    let six : length ys ≡ 6 = search (rules, places) in
    let one = subst (λ rows. RowTaken (get_or rows k []) ys) c.as_chunks.ensures.front c.take_row.ensures in
    let more = taken_more n k (6 * b + 6 - 6 * b) bytes c.loop-row.state ys c.requires row (omega arith) six (omega arith) c.loop-row.invariant [] one in
    subst (λ m. RowsTaken bytes (k + 1) (put_mid (6 * m) (6 * m + 6 - 6 * m) c.loop-row.state ys)) (sym body) more
