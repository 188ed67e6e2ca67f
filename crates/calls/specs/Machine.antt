-- A pure machine that obeys calls: a time, a state, and sixteen checkpoints.
-- Assumes nothing: these are definitions.
use Rattle.std.specs.Prelude.{ℕ, ◌^◌, Bool, cond, ℤ, pos, ◌+ℤ◌, ◌-ℤ◌, neg_ℤ, Some, None, Option, ◌==◌, nat_lt}
use Rattle.std.specs.Int.Signed.{mag}
use Rattle.std.specs.Int.{w64}
use Rattle.words.specs.Signed.{signed}
use Rattle.motion.specs.Memory.{inside}
use Rattle.motion.specs.Refusals.{Told, good, refused}
use Rattle.motion.specs.Systems.{WordsState, step_of, back_of}
use Rattle.motion.specs.Travel.{state_at}
use Rattle.motion.specs.declared.system.System.{System}
use Rattle.calls.specs.declared.answer.Answer.{Answer}
use Rattle.calls.specs.declared.answer.Answer.TheVariants.{Time, Reading}
use Rattle.calls.specs.declared.call.Call.{Call}
use Rattle.calls.specs.declared.call.Call.TheVariants.{Forward, Back, Mark, GoTo, Read}

-- what a machine moves: so many bodies, by a step and a step back
pub record Rules : Type 0 where
  pub count : ℕ
  pub step : WordsState → WordsState
  pub back : WordsState → WordsState

abbrev pub rules_of : System → Rules
rules_of system = record { count = system.count; step = step_of system; back = back_of system }

-- a time and a state that were kept
pub record Checkpoint : Type 0 where
  pub time : ℤ
  pub state : WordsState

-- the time, the state, and what is kept under each number
pub record Machine : Type 0 where
  pub time : ℤ
  pub state : WordsState
  pub kept : ℕ → Option Checkpoint

-- what a call answers, or how it is refused, and the machine after it
pub record Reply : Type 0 where
  pub answer : Told Answer
  pub after : Machine

-- is a time from -2 ^ 63 to 2 ^ 63 - 1?
abbrev pub in_range : ℤ → Bool
in_range t = nat_lt (mag t) (2 ^ 63)

-- what is told of the second, provided that the first is good
abbrev pub provided : {X : Type 0} → Told (Unit {0}) → Told X → Told X
provided (good x) second = second
provided (refused number place) second = refused number place

-- a refusal changes nothing
abbrev pub refuse : Machine → ℕ → ℕ → Reply
refuse m number place = record { answer = refused number place; after = m }

-- the machine with its time and state kept under number c
abbrev pub keep : ℕ → Machine → Machine
keep c m = record {
  time = m.time;
  state = m.state;
  kept = λ d. cond (d == c) (Some (record { time = m.time; state = m.state })) (m.kept d);
}

-- position and momentum of a body along an axis, read with sign
abbrev pub reading : ℕ → ℕ → Machine → Answer
reading b a m = Reading m.time (signed w64 (m.state.position b a).value) (signed w64 (m.state.momentum b a).value)

module _ (rules : Rules) where
  -- the machine after t steps, or as many steps back where t is negative
  abbrev pub moved_by : ℤ → Machine → Machine
  moved_by t m = record { time = m.time +ℤ t; state = state_at rules.step rules.back t m.state; kept = m.kept }

  -- to move by t answers with the time
  abbrev pub moving : ℤ → Machine → Reply
  moving t m = record { answer = good (Time (m.time +ℤ t)); after = moved_by t m }

  -- to go to what is kept is to move by the difference of the times; call k is refused if there is nothing
  abbrev pub going : Machine → ℕ → Option Checkpoint → Reply
  going m k None = refuse m 5 k
  going m k (Some checkpoint) = moving (checkpoint.time -ℤ m.time) m

  -- the machine obeys call number k
  abbrev pub obey : Machine → ℕ → Call → Reply
  obey m k (Forward steps) = cond (in_range (m.time +ℤ pos steps)) (moving (pos steps) m) (refuse m 7 k)
  obey m k (Back steps) = cond (in_range (m.time +ℤ neg_ℤ (pos steps))) (moving (neg_ℤ (pos steps)) m) (refuse m 7 k)
  obey m k (Mark c) = cond (nat_lt c 16) (record { answer = good (Time m.time); after = keep c m }) (refuse m 5 k)
  obey m k (GoTo c) = going m k (m.kept c)
  obey m k (Read b a) = cond (inside rules.count b a) (record { answer = good (reading b a m); after = m }) (refuse m 6 k)
