-- What a row of calls leaves behind, and what is told of it.
-- Assumes nothing: these are definitions.
use Rattle.std.specs.Prelude.{◌≡◌, ℕ, suc, ◌+◌, ◌<◌, List, ◌++◌, drop, Some, None, Option}
use Rattle.motion.specs.Memory.{state_of, state_length, work_length}
use Rattle.motion.specs.Refusals.{Told, good, refused, number_of, place_of}
use Rattle.motion.specs.declared.refusal.Refusal.{Refusal}
use Rattle.calls.specs.Calls.{row_from, row_in}
use Rattle.calls.specs.Checkpoints.{checkpoints_length, kept_in, machine_of}
use Rattle.calls.specs.Machine.{Machine, provided, rules_of}
use Rattle.calls.specs.Outcomes.{Untouched}
use Rattle.calls.specs.Promises.{BelongsToTime}
use Rattle.calls.specs.SystemBytes.{body_at, count_in, rules_in, machine_in, system_told, room_told}
use Rattle.calls.specs.Trace.{Trace, ended, stopped, answered, trace, last, lines, ending}
use Rattle.calls.specs.declared.answer.Answer.{Answer}
use Rattle.calls.specs.declared.player.Player.{Player}

-- What lies behind the words that n bodies use is as it was.
pub record BehindSame (n : ℕ) (state state_after checkpoints checkpoints_after work work_after : List ℕ) : Type 0 where
  pub state_behind : drop (state_length n) state_after ≡ drop (state_length n) state
  pub checkpoints_behind : drop (checkpoints_length n) checkpoints_after ≡ drop (checkpoints_length n) checkpoints
  pub work_behind : drop (work_length n) work_after ≡ drop (work_length n) work

-- The call whose bytes begin at `at` is answered, the next one begins at `to`, and the trace goes on from there.
pub record GoesOn (bytes : List ℕ) (k at : ℕ) (answer : Answer) (to : ℕ) (player after : Player)
    (state state_after checkpoints checkpoints_after work work_after : List ℕ) : Type 0 where
  pub trace_on : (most : ℕ) →
      trace (rules_of player.system) (machine_of player state checkpoints) k (row_from bytes (suc most) k at)
      ≡ answered answer (machine_of after state_after checkpoints_after)
      (trace (rules_of player.system) (machine_of after state_after checkpoints_after) (k + 1) (row_from bytes most (k + 1) to))
  pub further : at < to
  pub system : after.system ≡ player.system
  pub behind : BehindSame player.system.count state state_after checkpoints checkpoints_after work work_after

-- The call whose bytes begin at `at` is refused, the trace stops there, and nothing has changed.
pub record Stops (bytes : List ℕ) (k at : ℕ) (refusal : Refusal) (player after : Player)
    (state state_after checkpoints checkpoints_after work work_after : List ℕ) : Type 0 where
  pub trace_off : (most : ℕ) →
      trace (rules_of player.system) (machine_of player state checkpoints) k (row_from bytes (suc most) k at) ≡ stopped (number_of refusal) (place_of refusal)
  pub same : Untouched player after state state_after checkpoints checkpoints_after work work_after

-- A trace that began with a machine is told so far by a text, which leaves the machine `now`, and the rest of it is to come.
pub record SoFar (whole : Trace) (opening : Machine) (text : List ℕ) (now : Machine) (rest : Trace) : Type 0 where
  pub text_so_far : lines whole ≡ text ++ lines rest
  pub last_so_far : last opening whole ≡ last now rest
  pub ending_so_far : ending whole ≡ ending rest

-- what is left of a trace where a row came to its end, or to a refusal
abbrev pub rest_of : Option Refusal → Trace
rest_of None = ended
rest_of (Some refusal) = stopped (number_of refusal) (place_of refusal)

-- A whole trace is told by a text but for its refusal, and leaves this machine.
abbrev pub RowTold : Trace → Machine → List ℕ → Machine → Option Refusal → Type 0
RowTold whole opening text after refusal = SoFar whole opening text after (rest_of refusal)

-- how a row ended, by its refusal if there is one
abbrev pub end_told : Option Refusal → Told (Unit {0})
end_told None = good tt
end_told (Some refusal) = refused (number_of refusal) (place_of refusal)

-- what is told of the system in front of bytes, and of slices of these lengths
abbrev pub opening_told : List ℕ → ℕ → ℕ → ℕ → Told (Unit {0})
opening_told bytes state checkpoints work = provided (system_told bytes) (room_told (count_in bytes) state checkpoints work)

-- what comes of a system in front of bytes and of the calls behind it
abbrev pub trace_in : List ℕ → Told (Unit {0}) → Trace
trace_in bytes (good x) = trace (rules_in bytes) (machine_in bytes) 0 (row_in bytes (body_at (count_in bytes)))
trace_in bytes (refused number place) = stopped number place

-- The calls behind the system were made. The lent words hold the state and the checkpoints of the machine at the end of the
-- trace, and its state belongs to its time.
pub record Played (bytes : List ℕ) (state_after checkpoints_after : List ℕ) : Type 0 where
  pub state_is : state_of (count_in bytes) state_after ≡ (last (machine_in bytes) (trace_in bytes (good tt))).state
  pub kept_is : kept_in (count_in bytes) checkpoints_after ≡ (last (machine_in bytes) (trace_in bytes (good tt))).kept
  pub timely : BelongsToTime (rules_in bytes) (machine_in bytes) (record {
    time = (last (machine_in bytes) (trace_in bytes (good tt))).time;
    state = state_of (count_in bytes) state_after;
    kept = kept_in (count_in bytes) checkpoints_after;
  })

-- What is left in the lent words, by what is told of the opening: where it is refused, nothing has changed.
abbrev pub Left : List ℕ → Told (Unit {0}) → List ℕ → List ℕ → List ℕ → List ℕ → List ℕ → List ℕ → Type 0
Left bytes (good x) state state_after checkpoints checkpoints_after work work_after = Played bytes state_after checkpoints_after
Left bytes (refused number place) state state_after checkpoints checkpoints_after work work_after =
    (state_after ≡ state) × (checkpoints_after ≡ checkpoints) × (work_after ≡ work)
