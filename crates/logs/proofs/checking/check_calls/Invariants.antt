-- What is told of the log is what is told of it from this call on.
use Rattle.std.proofs.Common.{◌≡◌, ◌-◌, ◌≤◌, length}
use Rattle.calls.specs.Machine.{rules_of}
use Rattle.calls.specs.Sessions.{Kept, machine_in_session}
use Rattle.logs.specs.Checking.{log_told}
use Rattle.logs.proofs.checking.check_calls.Given as goal

abbrev pub invariant-loop-at : goal.invariant-loop-at
invariant-loop-at l =
    record {
      told : log_told (rules_of l.initial.session.player.system) l.bytes (length l.bytes) 0 l.from (machine_in_session l.initial.session)
          ≡ log_told (rules_of l.initial.session.player.system) l.bytes (length l.bytes - l.calls) l.calls l.at (machine_in_session l.session);
      kept : Kept l.initial.session l.session;
      further : l.calls ≤ l.at;
    }

-- each call ends behind its beginning
abbrev pub decreases-loop-at : goal.decreases-loop-at
decreases-loop-at l = length l.bytes - l.at
