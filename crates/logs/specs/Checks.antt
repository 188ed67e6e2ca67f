-- What the inner functions of a check find, call by call.
-- Assumes nothing: these are definitions.
use Rattle.std.specs.Prelude.{◌≡◌, ℕ, suc, ◌+◌, ◌<◌, List, Ok, Err, Result}
use Rattle.std.specs.declared.ops.ControlFlow.{ControlFlow}
use Rattle.std.specs.declared.ops.ControlFlow.TheVariants.{Continue, Break}
use Rattle.motion.specs.Refusals.{Told, good, refused, number_of, place_of}
use Rattle.motion.specs.declared.refusal.Refusal.{Refusal}
use Rattle.calls.specs.Checkpoints.{machine_of}
use Rattle.calls.specs.Machine.{Rules, Machine, rules_of}
use Rattle.calls.specs.declared.player.Player.{Player}
use Rattle.logs.specs.Checking.{Acceptance, stamp_told, log_told}

-- what is told of a log that ends in the refusal of call k
abbrev pub ends_in : ℕ → Machine → Refusal → Acceptance
ends_in k m refusal = record { calls = k; time = m.time; ending = refused (number_of refusal) (place_of refusal) }

-- what is found where call k is refused, and this is told of it
abbrev pub EndsAs : Told Acceptance → ℕ → Machine → Refusal → Result (ControlFlow Refusal ℕ) Refusal → Type 0
EndsAs told k m refusal (Ok next) = (next ≡ Break refusal) × (told ≡ good (ends_in k m refusal))
EndsAs told k m refusal (Err fault) = told ≡ refused (number_of fault) (place_of fault)

-- what is told of the stamp of call k at `at`
abbrev pub Compared : Rules → List ℕ → ℕ → ℕ → Machine → Result (ControlFlow Refusal ℕ) Refusal → Type 0
Compared rules bytes k at m (Ok next) =
    (next ≡ Continue (at + 16)) × ((rest : Told Acceptance) → stamp_told rules bytes k at m rest ≡ rest)
Compared rules bytes k at m (Err fault) = (rest : Told Acceptance) → stamp_told rules bytes k at m rest ≡ refused (number_of fault) (place_of fault)

-- The log goes on with the call that begins at `to`.
pub record GoesOn (bytes : List ℕ) (k at to : ℕ) (player after : Player) (state state_after checkpoints checkpoints_after : List ℕ) : Type 0 where
  pub told_on : (most : ℕ) →
      log_told (rules_of player.system) bytes (suc most) k at (machine_of player state checkpoints)
      ≡ log_told (rules_of player.system) bytes most (k + 1) to (machine_of after state_after checkpoints_after)
  pub further : at < to
  pub system : after.system ≡ player.system

-- what is found of call k, whose bytes begin at `at`: the log goes on, or ends with a refusal, or has a fault
abbrev pub Found : List ℕ → ℕ → ℕ → Player → Player → List ℕ → List ℕ → List ℕ → List ℕ → Result (ControlFlow Refusal ℕ) Refusal → Type 0
Found bytes k at player after state state_after checkpoints checkpoints_after (Ok (Continue to)) =
    GoesOn bytes k at to player after state state_after checkpoints checkpoints_after
Found bytes k at player after state state_after checkpoints checkpoints_after (Ok (Break refusal)) =
    ((most : ℕ) → log_told (rules_of player.system) bytes (suc most) k at (machine_of player state checkpoints) ≡ good (ends_in k (machine_of player state checkpoints) refusal))
    × (after ≡ player)
Found bytes k at player after state state_after checkpoints checkpoints_after (Err fault) =
    (most : ℕ) → log_told (rules_of player.system) bytes (suc most) k at (machine_of player state checkpoints) ≡ refused (number_of fault) (place_of fault)
