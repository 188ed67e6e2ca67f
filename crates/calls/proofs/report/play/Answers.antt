-- The opening and the calls together are the trace in the bytes.
use Rattle.std.proofs.Common.{rules, IfOk, string_bytes, ap, ◌∙◌, subst}
use Rattle.std.proofs.lemmas.Result.{IfOk-weaker}
use Rattle.calls.specs.Calls.{row_in}
use Rattle.calls.specs.Checkpoints.{machine_of}
use Rattle.calls.specs.Machine.{rules_of}
use Rattle.calls.specs.Reports.{RowTold, Left, trace_in}
use Rattle.calls.specs.Trace.{ending, trace}
use Rattle.calls.proofs.Played.{opened_behind, refused_ending, played_ending, played}
use Rattle.calls.proofs.Traced.{behind_then}
use Rattle.calls.proofs.report.play.Goals as goal

pub returns-in-Err-clause-refusal : goal.returns-in-Err-clause-refusal
returns-in-Err-clause-refusal c = refused_ending c.args.bytes.now c.in-Err.refusal _ c.in-Err.ensures.answer

pub returns-in-Ok : goal.returns-in-Ok
returns-in-Ok c =
    let bytes = c.args.bytes.now in
    let state = c.args.state.now in
    let kept = c.args.checkpoints.now in
    let work = c.args.work.now in
    let e = c.in-Ok.ensures in
    let made = c.make_calls.ensures in
    let player = c.in-Ok.player in
    let after = c.make_calls.new.self.player in
    let text = string_bytes c.make_calls.new.text in
    let begun = c.open_in_front.new.state in
    let cleared = c.open_in_front.new.checkpoints in
    let ends = c.make_calls.new.self.state.now in
    let marks = c.make_calls.new.self.checkpoints.now in
    let from = c.new-calls.result.at in
    let starts = c.new-calls.ensures.at ∙ c.system_size.ensures in
    let told_row = subst
    (λ b. IfOk c.make_calls.result (RowTold (trace (rules_of player.system) (machine_of player begun cleared) 0 (row_in b from)) (machine_of player begun cleared) text
    (machine_of after ends marks))) c.new-calls.ensures.bytes made.told in
    let over = IfOk-weaker c.make_calls.result _ _ (λ refusal told.
    subst (λ v. Left bytes v state ends kept marks work c.make_calls.new.self.work.now) e.answer
    (played bytes player after state begun ends kept cleared marks text from e.left starts made.kept.system refusal told)) told_row in
    let outside = behind_then (ap (λ r. r.count) e.left.rules) (opened_behind bytes player state begun kept cleared work e.left) made.kept.behind in
    record {
      text = search rules;
      refusal = IfOk-weaker c.make_calls.result _ _ (λ refusal told.
          played_ending bytes player after state begun ends kept cleared marks text from e.left starts made.kept.system refusal told
          ∙ ap (λ v. ending (trace_in bytes v)) e.answer) told_row;
      left = search (rules, over);
      behind = search (rules, outside);
    }
