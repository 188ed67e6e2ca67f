-- What a session keeps from one call to the next.
use Rattle.std.proofs.Common.{ap, ◌∙◌}
use Rattle.calls.specs.Sessions.{Kept}
use Rattle.calls.specs.declared.session.Session.{Session}
use Rattle.calls.proofs.Traced.{behind_then}

-- what two changes one after the other keep
pub kept_then : {a b c : Session} → Kept a b → Kept b c → Kept a c
kept_then first then = record {
  system = then.system ∙ first.system;
  state_lent = then.state_lent ∙ first.state_lent;
  checkpoints_lent = then.checkpoints_lent ∙ first.checkpoints_lent;
  work_lent = then.work_lent ∙ first.work_lent;
  behind = behind_then (ap (λ s. s.count) first.system) first.behind then.behind;
}
