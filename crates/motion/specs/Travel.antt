-- Rows of steps forward and back, over any step and its undoing: nothing here knows of bodies.
-- Assumes nothing: these are definitions and statements.
use Rattle.std.specs.Prelude.{◌≡◌, ℕ, zero, suc, ◌+◌, List, [], ◌∷◌, ℤ, pos, negsuc, ◌-ℤ◌}
use Rattle.motion.specs.declared.turn.Turn.{Turn}
use Rattle.motion.specs.declared.turn.Turn.TheVariants.{Forward, Back}

-- f, k times
unfoldable pub again : {S : Type 0} → (S → S) → ℕ → S → S
again f zero s = s
again f (suc k) s = again f k (f s)

-- the state after a turn of the lever
abbrev pub turned : {S : Type 0} → (S → S) → (S → S) → Turn → S → S
turned step back (Forward k) s = again step k s
turned step back (Back k) s = again back k s

-- the state after a row of turns
unfoldable pub travel : {S : Type 0} → (S → S) → (S → S) → List Turn → S → S
travel step back [] s = s
travel step back (turn ∷ turns) s = travel step back turns (turned step back turn s)

-- the steps forward of a row, and its steps back
unfoldable pub forward_steps : List Turn → ℕ
forward_steps [] = 0
forward_steps (Forward k ∷ turns) = k + forward_steps turns
forward_steps (Back k ∷ turns) = forward_steps turns

unfoldable pub back_steps : List Turn → ℕ
back_steps [] = 0
back_steps (Forward k ∷ turns) = back_steps turns
back_steps (Back k ∷ turns) = k + back_steps turns

-- the time at the end of a row, from 0: its steps forward less its steps back
abbrev pub time_of : List Turn → ℤ
time_of turns = pos (forward_steps turns) -ℤ pos (back_steps turns)

-- the state at a time, from the state at time 0: as many steps, or as many steps back where the time is negative
abbrev pub state_at : {S : Type 0} → (S → S) → (S → S) → ℤ → S → S
state_at step back (pos k) s = again step k s
state_at step back (negsuc k) s = again back (suc k) s

-- each of the two undoes the other, for every state
pub record Undone {S : Type 0} (step back : S → S) : Type 0 where
  pub step_back : (s : S) → back (step s) ≡ s
  pub back_step : (s : S) → step (back s) ≡ s

-- The state belongs to the time, and not to the way one came there.
pub record TimeDecides {S : Type 0} (step back : S → S) : Type 0 where
  -- k steps and k steps back lead to where one was, and the other way round
  pub there_and_back : (k : ℕ) (s : S) → again back k (again step k s) ≡ s
  pub back_and_there : (k : ℕ) (s : S) → again step k (again back k s) ≡ s
  -- steps may be made in parts
  pub parts : (j k : ℕ) (s : S) → again step (j + k) s ≡ again step k (again step j s)
  -- after every row the state is that of the row's time
  pub by_time : (turns : List Turn) (s : S) → travel step back turns s ≡ state_at step back (time_of turns) s
  -- two rows with the same steps forward less steps back end in the same state
  pub time_alone : (turns others : List Turn) (s : S) →
      forward_steps turns + back_steps others ≡ forward_steps others + back_steps turns →
      travel step back turns s ≡ travel step back others s

-- What every step keeps, every row keeps.
pub record Keeps {S V : Type 0} (step back : S → S) (value : S → V) : Type 0 where
  pub by_step : (s : S) → value (step s) ≡ value s
  pub by_back : (s : S) → value (back s) ≡ value s
  pub by_row : (turns : List Turn) (s : S) → value (travel step back turns s) ≡ value s

-- What a change of the state carries from one step to another, it carries over every row: with `change` before or after, the same.
pub record Carries {S R : Type 0} (step back : S → S) (other_step other_back : R → R) (change : S → R) : Type 0 where
  pub over_step : (s : S) → change (step s) ≡ other_step (change s)
  pub over_back : (s : S) → change (back s) ≡ other_back (change s)
  pub over_row : (turns : List Turn) (s : S) → change (travel step back turns s) ≡ travel other_step other_back turns (change s)
  pub at_all_times : (t : ℤ) (s : S) → change (state_at step back t s) ≡ state_at other_step other_back t (change s)
