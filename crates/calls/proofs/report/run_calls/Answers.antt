-- The text is that of the calls, with a line for the refusal behind it if there is one.
use Rattle.std.proofs.Common.{◌++◌, string_bytes, ap, ◌∙◌}
use Rattle.calls.specs.Reports.{rest_of}
use Rattle.calls.specs.Trace.{lines}
use Rattle.calls.proofs.Played.{lines_none, lines_some}
use Rattle.calls.proofs.report.run_calls.Goals as goal
use Rattle.calls.proofs.report.run_calls.Goals.{in-Some+in_ok-writeln, in_default}

pub returns-clause-text : goal.returns-clause-text
returns-clause-text c =
    let played = c.in_ok-refusal.ensures in
    let text = string_bytes c.play.new.text in
    elim c.match-refusal.branch [
      | in-Some+in_ok-writeln w ↦ ap string_bytes w.text-is
          ∙ lines_some w.in-Some.refusal text _ (string_bytes w.writeln.new.self) (played.text ∙ ap (λ r. text ++ lines (rest_of r)) w.in-Some.is)
          w.in_ok-writeln.ensures.bytes
      | in_default w ↦ ap string_bytes w.text-is ∙ lines_none text _ (played.text ∙ ap (λ r. text ++ lines (rest_of r)) w.in_default.is)
    ]
