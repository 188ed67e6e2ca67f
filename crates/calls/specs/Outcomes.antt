-- What the calls of this library answer and leave behind.
-- Assumes nothing: these are definitions.
use Rattle.std.specs.Prelude.{◌≡◌, ℕ, List, drop, ℤ, ◌-ℤ◌, Some, None, Ok, Err, Option, Result}
use Rattle.motion.specs.Memory.{state_length, work_length}
use Rattle.motion.specs.Systems.{WordsState}
use Rattle.motion.specs.Travel.{turned, state_at}
use Rattle.motion.specs.declared.refusal.Refusal.{Refusal}
use Rattle.motion.specs.declared.turn.Turn.{Turn}
use Rattle.calls.specs.Checkpoints.{checkpoints_length, machine_of, kept_words}
use Rattle.calls.specs.Machine.{rules_of, moved_by, obey}
use Rattle.calls.specs.declared.answer.Answer.{Answer}
use Rattle.calls.specs.declared.answer.Answer.TheVariants.{Time}
use Rattle.calls.specs.declared.call.Call.{Call}
use Rattle.calls.specs.declared.call.Call.TheVariants.{Forward, Back, Mark, GoTo, Read}
use Rattle.calls.specs.declared.player.Player.{Player}

-- A turn of the lever leads t steps on, or as many steps back where t is negative, whatever a step is.
abbrev pub Leads : Turn → ℤ → Type 0
Leads turn t = (step back : WordsState → WordsState) (s : WordsState) → turned step back turn s ≡ state_at step back t s

-- The player's system is the same, and so is what lies behind the words of the state and of work.
pub record OutsideSame (player after : Player) (state state_after work work_after : List ℕ) : Type 0 where
  pub system : after.system ≡ player.system
  pub state_behind : drop (state_length player.system.count) state_after ≡ drop (state_length player.system.count) state
  pub work_behind : drop (work_length player.system.count) work_after ≡ drop (work_length player.system.count) work

-- The player has gone to a time, whatever is kept.
pub record Gone (to : ℤ) (player after : Player) (state state_after work work_after : List ℕ) : Type 0 where
  pub machine : (checkpoints : List ℕ) →
      machine_of after state_after checkpoints ≡ moved_by (rules_of player.system) (to -ℤ player.time) (machine_of player state checkpoints)
  pub outside : OutsideSame player after state state_after work work_after

-- Where there is a time to go to, the player has gone there and answers with it; else it answers with the refusal, and
-- nothing has changed.
abbrev pub Arrived : Option ℤ → Refusal → Result Answer Refusal → Player → Player → List ℕ → List ℕ → List ℕ → List ℕ → Type 0
Arrived None refusal answer player after state state_after work work_after =
    (answer ≡ Err refusal) × (after ≡ player) × (state_after ≡ state) × (work_after ≡ work)
Arrived (Some to) refusal answer player after state state_after work work_after =
    (answer ≡ Ok (Time to)) × Gone to player after state state_after work work_after

-- the words of the checkpoints after a call that is not refused: only a mark changes any
abbrev pub checkpoints_after : ℕ → ℤ → List ℕ → List ℕ → Call → List ℕ
checkpoints_after n time state words (Forward steps) = words
checkpoints_after n time state words (Back steps) = words
checkpoints_after n time state words (Mark c) = kept_words n c time state words
checkpoints_after n time state words (GoTo c) = words
checkpoints_after n time state words (Read b a) = words

-- Call number k was obeyed as the machine obeys it.
pub record Obeyed (k : ℕ) (call : Call) (player after : Player) (state state_after checkpoints checkpoints_left work work_after : List ℕ) : Type 0 where
  pub machine : machine_of after state_after checkpoints_left ≡ (obey (rules_of player.system) (machine_of player state checkpoints) k call).after
  pub checkpoints_are : checkpoints_left ≡ checkpoints_after player.system.count player.time state checkpoints call
  pub checkpoints_behind :
      drop (checkpoints_length player.system.count) checkpoints_left ≡ drop (checkpoints_length player.system.count) checkpoints
  pub outside : OutsideSame player after state state_after work work_after

-- Nothing has changed.
pub record Untouched (player after : Player) (state state_after checkpoints checkpoints_left work work_after : List ℕ) : Type 0 where
  pub player_same : after ≡ player
  pub state_same : state_after ≡ state
  pub checkpoints_same : checkpoints_left ≡ checkpoints
  pub work_same : work_after ≡ work
