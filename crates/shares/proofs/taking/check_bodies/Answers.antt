-- The first faulty row is told, and a row without fault is passed over.
use Rattle.std.proofs.Common.{◌≡◌, ◌<◌, ◌≤◌, false, true, sym, ap, ◌∙◌, subst, arith}
use Rattle.shares.specs.Rows.{row_body, rows_in}
use Rattle.shares.specs.Taking.{seen, Distinct}
use Rattle.shares.proofs.Chunks.{rows_counted, body_read, seen_read}
use Rattle.shares.proofs.TakenRows.{fault_here, no_fault, rows_over, distinct_more, beyond_faulty, seen_faulty, not_faulty}
use Rattle.shares.proofs.taking.check_bodies.Goals as goal
use Rattle.shares.proofs.taking.check_bodies.Goals.{then-body-count-via-then-body-count, then-body-count-via-else-body-count+then-seen_in}

pub returns-then-body-count : goal.returns-then-body-count
returns-then-body-count c = λ bytes read.
    let n = c.args.count in
    let k = c.loop-k.k in
    let rows = c.args.rows.now in
    let count = rows_counted bytes rows read in
    let body = c.from-body.ensures ∙ body_read bytes rows read k c.loop-k-test.true in
    let here = fault_here n bytes (rows_in bytes) k (omega arith) in
    elim c.then-body-count.branch [
      | then-body-count-via-then-body-count w ↦
          let beyond : n ≤ row_body bytes k = omega (arith, w.if-body-count.true) in
          sym ((c.loop-k.invariant bytes read).0 ∙ here (beyond_faulty n bytes k beyond))
      | then-body-count-via-else-body-count+then-seen_in w ↦
          let within : row_body bytes k < n = omega (arith, w.if-body-count.false) in
          let twice : seen bytes k (row_body bytes k) ≡ true =
          ap (seen bytes k) (sym body) ∙ sym (seen_read bytes rows read k c.from-body.result (omega arith)) ∙ sym w.seen_in.ensures ∙ w.if-seen_in.true in
          sym ((c.loop-k.invariant bytes read).0 ∙ here (seen_faulty n bytes k within twice))
    ]

pub loop-k-preserved : goal.loop-k-preserved
loop-k-preserved c = λ bytes read.
    let n = c.args.count in
    let k = c.loop-k.k in
    let rows = c.args.rows.now in
    let count = rows_counted bytes rows read in
    let body = c.from-body.ensures ∙ body_read bytes rows read k c.loop-k-test.true in
    let within : row_body bytes k < n = omega arith in
    let fresh : seen bytes k (row_body bytes k) ≡ false =
    ap (seen bytes k) (sym body) ∙ sym (seen_read bytes rows read k c.from-body.result (omega arith)) ∙ sym c.seen_in.ensures ∙ c.if-seen_in.false in
    let before = c.loop-k.invariant bytes read in (
      before.0 ∙ no_fault n bytes (rows_in bytes) k (omega arith) (not_faulty n bytes k within fresh),
      distinct_more n bytes k within fresh before.1,
    )

pub returns : goal.returns
returns c = λ bytes read.
    let n = c.args.count in
    let count = rows_counted bytes c.args.rows.now read in
    let all : c.loop-k.k ≡ rows_in bytes = omega arith in
    let before = c.loop-k.invariant bytes read in
    (before.0 ∙ rows_over n bytes (rows_in bytes) c.loop-k.k (omega arith), subst (Distinct n bytes) all before.1)
