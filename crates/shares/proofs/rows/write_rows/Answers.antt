-- A body of the share gets the next row, and another none.
use Rattle.std.proofs.Common.{◌≡◌, ◌+◌, ◌-◌, ◌*◌, ◌/◌, ◌≤◌, ℕ, ◌<◌, [], length, get_or, sym, ap, ◌∙◌, true≢false, arith, rules}
use Rattle.std.proofs.lemmas.List.{places}
use Rattle.shares.proofs.Chunks.{get_or-first_chunks}
use Rattle.shares.proofs.Members.{members_none, members_in, members_out, row_room}
use Rattle.shares.proofs.SentRows.{rows_none, rows_more, rows_skip}
use Rattle.shares.proofs.rows.write_rows.Goals as goal
use Rattle.shares.proofs.rows.write_rows.Goals.{then-in_share, else-in_share}

pub loop-b-init : goal.loop-b-init
loop-b-init c = let m = members_none c.args.share.now in (rows_none _ _ _, omega arith)

pub overflow_add-at : goal.overflow_add-at
overflow_add-at c =
    omega (
      arith,
      row_room c.args.share.now c.loop-b.b (length c.args.words.now / 6) c.loop-b.at _
          (sym c.in_share.ensures ∙ c.if-in_share.true) (omega arith) (omega arith) c.loop-b.invariant.1 c.requires.rows,
    )

pub slice_bounds-write_row-end : goal.slice_bounds-write_row-end
slice_bounds-write_row-end c =
    omega (
      arith,
      row_room c.args.share.now c.loop-b.b (length c.args.words.now / 6) c.loop-b.at _
          (sym c.in_share.ensures ∙ c.if-in_share.true) (omega arith) (omega arith) c.loop-b.invariant.1 c.requires.rows,
    )

pub loop-b-preserved : goal.loop-b-preserved
loop-b-preserved c =
    let share = c.args.share.now in
    let words = c.args.words.now in
    let n = length words / 6 in
    let b = c.loop-b.b in
    let at = c.loop-b.at in
    let six = get_or c.as_chunks.result.0.now b [] in
    elim c.if-in_share.branch [
      | then-in_share w ↦
          let in_share = sym c.in_share.ensures ∙ w.if-in_share.true in
          let room = row_room share b n at _ in_share (omega arith) (omega arith) c.loop-b.invariant.1 c.requires.rows in
          let room' : at + (at + 49 - at) ≤ length c.loop-b.rows = omega arith in
          let long : length w.write_row.new.row ≡ at + 49 - at = search (rules, places) in
          let part : (i : ℕ) → i < 6 → get_or six i 0 ≡ get_or words (6 * b + i) 0 =
          λ i l. ap (λ chunks. get_or (get_or chunks b []) i 0) c.as_chunks.ensures.front ∙ get_or-first_chunks 6 n words b i [] (omega arith) l in
          let m = members_in share b in_share in (
            simp w.rows-is (rows_more share words c.loop-b.rows w.write_row.new.row b at (at + 49 - at) c.loop-b.invariant.0
                c.loop-b.invariant.1 (omega arith) room' long six part w.write_row.ensures),
            omega (arith, w.at-is),
          )
      | else-in_share w ↦
          let out = sym c.in_share.ensures ∙ w.if-in_share.false in
          let m = members_out share b out in (
            simp w.rows-is (rows_skip share words c.loop-b.rows b (λ e. true≢false (sym e ∙ out)) c.loop-b.invariant.0),
            omega (arith, w.at-is),
          )
    ]
