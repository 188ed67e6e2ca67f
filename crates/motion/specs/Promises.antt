-- What the theory promises of rows of turns and of bodies, each a statement over all kinds of states and numbers.
-- Assumes nothing: these are definitions and statements.
use Rattle.std.specs.Prelude.{◌≡◌, ℕ}
use Rattle.words.specs.Numbers.{Numbers, Lawful}
use Rattle.motion.specs.Travel.{Undone, Keeps, Carries}
use Rattle.motion.specs.Bodies.{Law, Fair, Renumbering, step, step_back, total_momentum, renumbered, shifted}

-- what a step keeps, every row keeps
abbrev pub RowsKeep : (S V : Type 0) → Type 0
RowsKeep S V = (step back : S → S) (value : S → V) →
    Undone step back → ((s : S) → value (step s) ≡ value s) → Keeps step back value

-- what a change of the state carries from one step to another, it carries over every row
abbrev pub ChangesCarry : (S R : Type 0) → Type 0
ChangesCarry S R = (step back : S → S) (other_step other_back : R → R) (change : S → R) →
    Undone step back → Undone other_step other_back → ((s : S) → change (step s) ≡ other_step (change s)) →
    Carries step back other_step other_back change

-- `other` gives body i of the new numbering what `law` gives body `old i` of the old one
pub record RenumberedLaw {P D : Type 0} (old : ℕ → ℕ) (law other : Law P D) : Type 0 where
  pub impulse_same : (x : ℕ → ℕ → P) (a i j : ℕ) →
      other.impulse (λ b c. x (old b) c) a i j ≡ law.impulse x a (old i) (old j)
  pub motion_same : (i a : ℕ) (p : D) → other.motion i a p ≡ law.motion (old i) a p

-- the impulses stay as they are where all positions are moved along each axis a by `by a`
abbrev pub ShiftInvariant : {P D : Type 0} → Numbers P → (ℕ → P) → Law P D → Type 0
ShiftInvariant {P} positions by law =
    (x : ℕ → ℕ → P) (a i j : ℕ) → law.impulse (λ b c. positions.plus (x b c) (by c)) a i j ≡ law.impulse x a i j

module _ (P D : Type 0) where
  -- a step and a step back undo each other, for every law and every number of bodies
  abbrev pub StepsUndone : Type 0
  StepsUndone = (positions : Numbers P) (momenta : Numbers D) → Lawful positions → Lawful momenta →
      (law : Law P D) (n : ℕ) → Undone (step positions momenta law n) (step_back positions momenta law n)

  -- a fair law keeps the total momentum along every axis
  abbrev pub MomentumKept : Type 0
  MomentumKept = (positions : Numbers P) (momenta : Numbers D) → Lawful positions → Lawful momenta →
      (law : Law P D) (n : ℕ) → Fair momenta law → (a : ℕ) →
      Keeps (step positions momenta law n) (step_back positions momenta law n) (total_momentum momenta n a)

  -- a new numbering of the bodies, before or after a row, gives the same
  abbrev pub RenumberingCarries : Type 0
  RenumberingCarries = (positions : Numbers P) (momenta : Numbers D) → Lawful positions → Lawful momenta →
      (n : ℕ) (r : Renumbering n) (law other : Law P D) → RenumberedLaw r.old law other →
      Carries (step positions momenta law n) (step_back positions momenta law n)
      (step positions momenta other n) (step_back positions momenta other n) (renumbered r.old)

  -- a shift of all positions, before or after a row, gives the same
  abbrev pub ShiftingCarries : Type 0
  ShiftingCarries = (positions : Numbers P) (momenta : Numbers D) → Lawful positions → Lawful momenta →
      (by : ℕ → P) (law : Law P D) → ShiftInvariant positions by law → (n : ℕ) →
      Carries (step positions momenta law n) (step_back positions momenta law n)
      (step positions momenta law n) (step_back positions momenta law n) (shifted positions by)
