-- What a call of this library leaves behind.
-- Assumes nothing: these are definitions.
use Rattle.std.specs.Prelude.{◌≡◌, ℕ, ◌+◌, Bool, List, length, drop, Result, MatchResult}
use Rattle.words.specs.Words.{words}
use Rattle.motion.specs.Bodies.{total_momentum}
use Rattle.motion.specs.Changes.{ShareHolds}
use Rattle.motion.specs.Memory.{state_length, work_length, state_of}
use Rattle.motion.specs.Refusals.{told, lent}
use Rattle.motion.specs.Systems.{WordsState, step_of, back_of}
use Rattle.motion.specs.Travel.{travel, state_at, time_of, forward_steps, back_steps}
use Rattle.motion.specs.declared.refusal.Refusal.{Refusal}
use Rattle.motion.specs.declared.system.System.{System}
use Rattle.motion.specs.declared.turn.Turn.{Turn}

-- The words of the state hold what `change` makes of the state before, and the words behind them are as they were.
pub record Changed (system : System) (change : WordsState → WordsState) (before after : List ℕ) : Type 0 where
  pub state : state_of system.count after ≡ change (state_of system.count before)
  pub behind : drop (state_length system.count) after ≡ drop (state_length system.count) before

-- What a call answers and what it leaves in the lent slices: either `change` was made, or the call is refused, by the lengths
-- alone, and nothing has changed. The words of work in use may hold anything after it.
pub record Outcome (system : System) (change : WordsState → WordsState) (answer : Result (Unit {0}) Refusal)
    (state state_after work work_after : List ℕ) : Type 0 where
  pub told_so : told answer ≡ lent (state_length system.count) (work_length system.count) (length state) (length work)
  pub state_left : MatchResult answer (λ _. Changed system change state state_after) (λ _. state_after ≡ state)
  pub work_left : MatchResult answer
      (λ _. drop (work_length system.count) work_after ≡ drop (work_length system.count) work) (λ _. work_after ≡ work)

-- What a step of a share answers and leaves in the words lent for work: those of the share's bodies are the words that
-- a step of all gives them; or the call is refused, and nothing has changed.
pub record ShareOutcome (system : System) (change : WordsState → WordsState) (share : List Bool) (answer : Result (Unit {0}) Refusal)
    (state work work_after : List ℕ) : Type 0 where
  pub told_so : told answer ≡ lent (state_length system.count) (state_length system.count) (length state) (length work)
  pub work_left : MatchResult answer
      (λ _. ShareHolds system.count share (change (state_of system.count state)) work_after) (λ _. work_after ≡ work)
  pub behind : drop (state_length system.count) work_after ≡ drop (state_length system.count) work

-- After a row of turns the state belongs to its time, and the momenta keep their sums.
pub record Timed (system : System) (turns : List Turn) (before after : WordsState) : Type 0 where
  -- it is the state after the row's steps forward less its steps back, or as many steps back where that is negative
  pub by_time : after ≡ state_at (step_of system) (back_of system) (time_of turns) before
  -- every other row with the same difference ends in it too
  pub time_alone : (others : List Turn) → forward_steps turns + back_steps others ≡ forward_steps others + back_steps turns →
      after ≡ travel (step_of system) (back_of system) others before
  -- along each axis the sum of the momenta is what it was
  pub momentum_kept : (a : ℕ) → total_momentum (words 64) system.count a after ≡ total_momentum (words 64) system.count a before
