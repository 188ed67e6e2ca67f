-- What is written of calls that are made: the log of them.
-- Assumes nothing: these are definitions.
use Rattle.std.specs.Prelude.{◌≡◌, ℕ, zero, suc, ◌+◌, ◌<◌, cond, List, [], ◌∷◌, ◌++◌, length, take, Some, None, Option, ◌==◌, nat_le, slice_index}
use Rattle.motion.specs.Refusals.{Told, good, refused}
use Rattle.calls.specs.Calls.{size_of, bytes_of_call, call_at}
use Rattle.calls.specs.Checkpoints.{machine_of}
use Rattle.calls.specs.Machine.{Rules, Machine, rules_of, obey}
use Rattle.calls.specs.SystemBytes.{body_at, count_in, rules_in, machine_in}
use Rattle.calls.specs.declared.call.Call.{Call}
use Rattle.calls.specs.declared.player.Player.{Player}
use Rattle.logs.specs.Logs.{behind}

-- what is written of bytes from `at` on that are no call: a kind that there is not, and nothing of a call that is cut off
abbrev pub fault_written : List ℕ → ℕ → ℕ → List ℕ
fault_written bytes at number = cond (number == 4) (slice_index bytes at ∷ []) []

module _ (rules : Rules) (bytes : List ℕ) where
  -- call k was decoded from `at` on, or is no call
  abbrev pub call_written : ℕ → ℕ → Machine → Told Call → (Machine → ℕ → List ℕ) → List ℕ
  call_written k at m (good call) rest =
      bytes_of_call call ++ behind rules (obey rules m k call).answer (obey rules m k call).after (λ after. rest after (at + size_of call))
  call_written k at m (refused number place) rest = fault_written bytes at number

  -- what is written of at most `most` calls from number k on, whose bytes begin at `at`
  unfoldable pub written_from : ℕ → ℕ → ℕ → Machine → List ℕ
  written_from zero k at m = []
  written_from (suc most) k at m =
      cond (nat_le (length bytes) at) [] (call_written k at m (call_at bytes k at) (λ after to. written_from most (k + 1) to after))

-- the log of a system in front of bytes and of the calls behind it, by what is told of the opening
abbrev pub written_in : List ℕ → Told (Unit {0}) → Option (List ℕ)
written_in bytes (good x) =
    Some (take (body_at (count_in bytes)) bytes ++ written_from (rules_in bytes) bytes (length bytes) 0 (body_at (count_in bytes)) (machine_in bytes))
written_in bytes (refused number place) = None

-- The record of the call at `at` is appended, and the log goes on with the call that begins at `to`.
pub record GoesOn (bytes : List ℕ) (k at to : ℕ) (player after : Player) (state state_after checkpoints checkpoints_after log log_after : List ℕ) : Type 0 where
  pub written_on : (most : ℕ) →
      log ++ written_from (rules_of player.system) bytes (suc most) k at (machine_of player state checkpoints)
      ≡ log_after ++ written_from (rules_of player.system) bytes most (k + 1) to (machine_of after state_after checkpoints_after)
  pub further : at < to
  pub system : after.system ≡ player.system

-- what was written of call k, whose bytes begin at `at`: the log goes on, or ends with it
abbrev pub Recorded : List ℕ → ℕ → ℕ → Option ℕ → Player → Player → List ℕ → List ℕ → List ℕ → List ℕ → List ℕ → List ℕ → Type 0
Recorded bytes k at (Some to) player after state state_after checkpoints checkpoints_after log log_after =
    GoesOn bytes k at to player after state state_after checkpoints checkpoints_after log log_after
Recorded bytes k at None player after state state_after checkpoints checkpoints_after log log_after =
    (most : ℕ) → log_after ≡ log ++ written_from (rules_of player.system) bytes (suc most) k at (machine_of player state checkpoints)
