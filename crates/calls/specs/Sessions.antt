-- What is said of a session as a whole.
-- Assumes nothing: these are definitions.
use Rattle.std.specs.Prelude.{◌≡◌, ℕ, List}
use Rattle.motion.specs.declared.refusal.Refusal.{Refusal}
use Rattle.calls.specs.Checkpoints.{machine_of}
use Rattle.calls.specs.Machine.{Machine}
use Rattle.calls.specs.Outcomes.{Obeyed, Untouched}
use Rattle.calls.specs.Reports.{BehindSame, GoesOn, Stops}
use Rattle.calls.specs.declared.answer.Answer.{Answer}
use Rattle.calls.specs.declared.call.Call.{Call}
use Rattle.calls.specs.declared.session.Session.{Session}

-- the machine that a session is
abbrev pub machine_in_session : Session → Machine
machine_in_session s = machine_of s.player s.state.now s.checkpoints.now

-- The same words are lent, for the same system, and what lies behind those in use is as it was.
pub record Kept (session after : Session) : Type 0 where
  pub system : after.player.system ≡ session.player.system
  pub state_lent : after.state.ghost_name ≡ session.state.ghost_name
  pub checkpoints_lent : after.checkpoints.ghost_name ≡ session.checkpoints.ghost_name
  pub work_lent : after.work.ghost_name ≡ session.work.ghost_name
  pub behind : BehindSame session.player.system.count session.state.now after.state.now session.checkpoints.now after.checkpoints.now session.work.now after.work.now

-- call k is obeyed
abbrev pub ObeyedIn : ℕ → Call → Session → Session → Type 0
ObeyedIn k call s after = Obeyed k call s.player after.player s.state.now after.state.now s.checkpoints.now after.checkpoints.now s.work.now after.work.now

-- nothing has changed
abbrev pub UntouchedIn : Session → Session → Type 0
UntouchedIn s after = Untouched s.player after.player s.state.now after.state.now s.checkpoints.now after.checkpoints.now s.work.now after.work.now

-- The call whose bytes begin at `at` is answered, and the trace goes on from where the next one begins.
abbrev pub GoesOnIn : List ℕ → ℕ → ℕ → Answer → ℕ → Session → Session → Type 0
GoesOnIn bytes k at answer to s after =
    GoesOn bytes k at answer to s.player after.player s.state.now after.state.now s.checkpoints.now after.checkpoints.now s.work.now after.work.now

-- The call whose bytes begin at `at` is refused, and nothing has changed.
abbrev pub StopsIn : List ℕ → ℕ → ℕ → Refusal → Session → Session → Type 0
StopsIn bytes k at refusal s after =
    Stops bytes k at refusal s.player after.player s.state.now after.state.now s.checkpoints.now after.checkpoints.now s.work.now after.work.now
