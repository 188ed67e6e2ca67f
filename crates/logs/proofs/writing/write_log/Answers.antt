-- The system's bytes stand in front, and the records of the calls behind them.
use Rattle.std.proofs.Common.{rules, ◌++◌, length, take, Some, vec_items, sym, ap, ◌∙◌}
use Rattle.calls.specs.SystemBytes.{body_at, count_in, system_told, room_told}
use Rattle.calls.proofs.Played.{opened_behind}
use Rattle.calls.proofs.Traced.{behind_then}
use Rattle.calls.proofs.Validity.{both}
use Rattle.logs.specs.Writing.{written_from, written_in}
use Rattle.logs.proofs.WrittenLogs.{written_log}
use Rattle.logs.proofs.writing.write_log.Goals as goal

pub returns : goal.returns
returns c =
    let bytes = c.args.bytes.now in
    let e = c.in-Ok.ensures in
    let opened = e.left in
    let from = c.system_size-from.ensures ∙ ap (λ r. body_at r.count) opened.rules in
    let front = c.in_ok-log.ensures.items_if_clones_equal (λ x y e. e) ∙ ap (λ n. take n bytes) from in
    let items = c.in_ok-write_calls.ensures.log
    ∙ (λ i. front i ++ written_from (opened.rules i) bytes (length bytes) 0 (from i) (opened.machine i)) in
    let taken = (both (system_told bytes) (room_told (count_in bytes) (length c.args.state.now) (length c.args.checkpoints.now) (length c.args.work.now)) tt (sym e.answer)).0 in
    let outside = behind_then (ap (λ r. r.count) opened.rules)
    (opened_behind bytes c.in-Ok.player c.args.state.now c.open_in_front.new.state c.args.checkpoints.now c.open_in_front.new.checkpoints c.args.work.now opened)
    c.write_calls.ensures.kept.behind in
    record {
      log = ap Some items ∙ ap (written_in bytes) e.answer;
      right = written_log bytes (λ j. (c.type_inv.bytes j).fits) taken (vec_items c.write_calls.new.log) items;
      behind = search (rules, outside);
    }
