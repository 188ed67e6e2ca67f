-- What is found and recorded in a session as a whole.
-- Assumes nothing: these are definitions.
use Rattle.std.specs.Prelude.{ℕ, List, Some, None, Result}
use Rattle.std.specs.declared.ops.ControlFlow.{ControlFlow}
use Rattle.std.specs.declared.ops.ControlFlow.TheVariants.{Continue, Break}
use Rattle.motion.specs.declared.refusal.Refusal.{Refusal}
use Rattle.calls.specs.declared.session.Session.{Session}
use Rattle.logs.specs.Checks.{Found}
use Rattle.logs.specs.Writing.{Recorded}

-- what is found of call k, whose bytes begin at `at`
abbrev pub FoundIn : List ℕ → ℕ → ℕ → Session → Session → Result (ControlFlow Refusal ℕ) Refusal → Type 0
FoundIn bytes k at s after = Found bytes k at s.player after.player s.state.now after.state.now s.checkpoints.now after.checkpoints.now

-- what was written of call k, whose bytes begin at `at`: the log goes on with the call that begins at `to`, or ends with it
abbrev pub RecordedIn : List ℕ → ℕ → ℕ → ℕ → ControlFlow (Unit {0}) (Unit {0}) → Session → Session → List ℕ → List ℕ → Type 0
RecordedIn bytes k at to (Continue x) s after = Recorded bytes k at (Some to) s.player after.player s.state.now after.state.now s.checkpoints.now after.checkpoints.now
RecordedIn bytes k at to (Break x) s after = Recorded bytes k at None s.player after.player s.state.now after.state.now s.checkpoints.now after.checkpoints.now
