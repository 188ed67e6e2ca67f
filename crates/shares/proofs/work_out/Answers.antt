-- The rows are written by the words that the step of the share left, and lie in front of the other bytes.
use Rattle.std.proofs.Common.{◌≡◌, ◌*◌, length, take, ap, ◌∙◌, subst, ◌/◌, arith, get_or-take, length-take-le, rules}
use Rattle.std.proofs.lemmas.List.{places}
use Rattle.std.proofs.lemmas.Slice.{overwrites}
use Rattle.shares.specs.Rows.{members, RowsWritten}
use Rattle.shares.proofs.SentRows.{sent}
use Rattle.shares.proofs.work_out.Goals as goal

pub returns-clause-rows : goal.returns-clause-rows
returns-clause-rows c =
    let n = c.args.system.now.count in
    let k = c.count-count.result in
    let all : k ≡ n = c.count-count.ensures in
    let share = c.args.share.now in
    let ys = c.write_rows.new.rows in
    let stepped = c.in_ok-step_share.ensures in
    let size : 49 * c.count_members-needed.result ≡ 49 * members share n = ap (λ m. 49 * m) (c.count_members-needed.ensures.value ∙ ap (members share) all) in
    let whole : length (take (6 * k) c.step_share.new.work) / 6 ≡ n = omega (arith, length-take-le (6 * k) c.step_share.new.work (omega arith)) in
    let long : length ys ≡ 49 * c.count_members-needed.result = search (rules, places) in
    sent n share _ _ c.step_share.new.work c.args.rows.now ys _ _ size long
    (subst (λ m. RowsWritten share (take (6 * k) c.step_share.new.work) m ys) whole c.write_rows.ensures) stepped.work_left
    (λ i h. get_or-take (6 * k) c.step_share.new.work i 0 (omega arith)) (search (rules, overwrites))
