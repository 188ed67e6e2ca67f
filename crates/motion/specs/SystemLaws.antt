-- What holds of every system, over words of 64 bits.
-- Assumes nothing: these are statements.
use Rattle.std.specs.Prelude.{ℕ}
use Rattle.words.specs.Words.{Word, words}
use Rattle.motion.specs.Bodies.{Renumbering, total_momentum, renumbered, shifted}
use Rattle.motion.specs.Systems.{step_of, back_of, step_by, back_by}
use Rattle.motion.specs.Travel.{Undone, TimeDecides, Keeps, Carries}
use Rattle.motion.specs.declared.system.System.{System}

-- a step and a step back undo each other, and the state belongs to the time
abbrev pub SystemsKeepTime : Type 0
SystemsKeepTime = (system : System) → Undone (step_of system) (back_of system) × TimeDecides (step_of system) (back_of system)

-- every row keeps the total momentum along every axis
abbrev pub SystemsKeepMomentum : Type 0
SystemsKeepMomentum = (system : System) (a : ℕ) →
    Keeps (step_of system) (back_of system) (total_momentum (words 64) system.count a)

-- a new numbering of the bodies, their masses with them, before or after a row, gives the same
abbrev pub SystemsRenumber : Type 0
SystemsRenumber = (softening : ℕ) (mass : ℕ → ℕ) (n : ℕ) (r : Renumbering n) →
    Carries (step_by softening mass n) (back_by softening mass n)
    (step_by softening (λ i. mass (r.old i)) n) (back_by softening (λ i. mass (r.old i)) n) (renumbered r.old)

-- a shift of all positions along each axis a by the word `by a`, before or after a row, gives the same
abbrev pub SystemsShift : Type 0
SystemsShift = (softening : ℕ) (mass : ℕ → ℕ) (n : ℕ) (by : ℕ → Word 64) →
    Carries (step_by softening mass n) (back_by softening mass n)
    (step_by softening mass n) (back_by softening mass n) (shifted (words 64) by)
