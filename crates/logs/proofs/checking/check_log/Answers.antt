-- The system is opened, and its calls are checked.
use Rattle.std.proofs.Common.{rules, length, Err, ap, ◌∙◌}
use Rattle.std.proofs.lemmas.Result.{err_from_is_err_and}
use Rattle.calls.specs.SystemBytes.{body_at}
use Rattle.calls.proofs.Played.{opened_behind}
use Rattle.calls.proofs.Traced.{behind_then}
use Rattle.logs.specs.Checking.{log_in, log_told}
use Rattle.logs.proofs.Altered.{altered_told}
use Rattle.logs.proofs.Judged.{judge}
use Rattle.logs.proofs.checking.check_log.Goals as goal

pub returns : goal.returns
returns c =
    let bytes = c.args.bytes.now in
    let player = c.in_ok-player.player in
    let e = c.in_ok-player.ensures in
    let opened = e.left in
    let from = c.system_size-from.ensures ∙ ap (λ r. body_at r.count) opened.rules in
    let answer = c.check_calls.ensures.answer
    ∙ (λ i. log_told (opened.rules i) bytes (length bytes) 0 (from i) (opened.machine i))
    ∙ ap (log_in bytes) e.answer in
    let judged = judge bytes (λ j. (c.type_inv.bytes j).fits) (length c.args.state.now) (length c.args.checkpoints.now) (length c.args.work.now) c.check_calls.result answer in
    let outside = behind_then (ap (λ r. r.count) opened.rules)
    (opened_behind bytes player c.args.state.now c.open_in_front.new.state c.args.checkpoints.now c.open_in_front.new.checkpoints c.args.work.now opened)
    c.check_calls.ensures.kept.behind in
    record {
      answer = answer;
      right = judged.right;
      accepts = judged.accepts;
      refuses = judged.refuses;
      altered = λ j i v in-stamp byte other. altered_told bytes (λ k. (c.type_inv.bytes k).fits) j i v byte other in-stamp;
      behind = search (rules, outside);
    }

pub returns-in_err-player-clause-right : goal.returns-in_err-player-clause-right
returns-in_err-player-clause-right c =
    let p = err_from_is_err_and c.from_residual.result c.from_residual.ensures.1 in
    let bytes = c.args.bytes.now in
    let answer = ap (log_in bytes) c.in_err-player.ensures.answer in
    rw (p.1, p.2)
    (judge bytes (λ j. (c.type_inv.bytes j).fits) (length c.args.state.now) (length c.args.checkpoints.now) (length c.args.work.now) (Err c.in_err-player.field-0.0) answer).right

pub returns-in_err-player-clause-altered : goal.returns-in_err-player-clause-altered
returns-in_err-player-clause-altered c = λ j i v in-stamp byte other. altered_told c.args.bytes.now (λ k. (c.type_inv.bytes k).fits) j i v byte other in-stamp
