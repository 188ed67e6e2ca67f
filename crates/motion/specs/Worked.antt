-- Worked examples: small systems, with the words that a row of turns leads them to written out.
-- Assumes nothing: these are definitions and a statement.
use Rattle.std.specs.Prelude.{◌≡◌, ℕ, zero, suc, ◌-◌, ◌^◌, List, [], ◌∷◌, ◌++◌, length, slice_index_or}
use Rattle.std.specs.List.{AllByRecursion}
use Rattle.impulse.specs.Impulse.{impulse}
use Rattle.motion.specs.Memory.{state_of, position_at}
use Rattle.motion.specs.Systems.{WordsState, step_by, back_by}
use Rattle.motion.specs.Travel.{travel}
use Rattle.motion.specs.declared.turn.Turn.{Turn}
use Rattle.motion.specs.declared.turn.Turn.TheVariants.{Forward, Back}

-- an example: a softening, the masses of the bodies, the words of the opening, a row of turns, and the words after it
pub record Example : Type 0 where
  pub softening : ℕ
  pub masses : List ℕ
  pub opening : List ℕ
  pub turns : List Turn
  pub expected : List ℕ

-- the words of a state of n bodies: for each body and each axis the position and the momentum
abbrev pub words_of : ℕ → WordsState → List ℕ
words_of zero s = []
words_of (suc n) s = words_of n s
    ++ ((s.position n 0).value ∷ (s.momentum n 0).value ∷ (s.position n 1).value ∷ (s.momentum n 1).value
    ∷ (s.position n 2).value ∷ (s.momentum n 2).value ∷ [])

-- the words after the turns of an example, by the definitions
abbrev pub outcome : Example → List ℕ
outcome e =
    let n = length e.masses in
    let mass : ℕ → ℕ = λ b. slice_index_or e.masses b 0 in
    words_of n (travel (step_by e.softening mass n) (back_by e.softening mass n) e.turns (state_of n e.opening))

-- an example with the least softening
abbrev pub example : List ℕ → List ℕ → List Turn → List ℕ → Example
example masses opening turns expected =
    record { softening = 2 ^ 20; masses = masses; opening = opening; turns = turns; expected = expected }

-- the words of a body with position x and momentum p on the first axis and 0 on the others
abbrev pub body : ℕ → ℕ → List ℕ
body x p = x ∷ p ∷ 0 ∷ 0 ∷ 0 ∷ 0 ∷ []

-- the word of -k
abbrev pub minus : ℕ → ℕ
minus k = 2 ^ 64 - k

-- two bodies at rest, 2 ^ 60 apart
abbrev pub apart : List ℕ
apart = body 0 0 ++ body (2 ^ 60) 0

abbrev pub examples : List Example
examples =
    -- two bodies at rest fall toward each other, and a step back undoes a step
    example (2 ∷ 1 ∷ []) apart (Forward 1 ∷ []) (body 1023 2046 ++ body (2 ^ 60 - 2046) (minus 2046))
    ∷ example (2 ∷ 1 ∷ []) apart (Forward 2 ∷ []) (body 3069 4092 ++ body (2 ^ 60 - 6138) (minus 4092))
    ∷ example (2 ∷ 1 ∷ []) apart (Forward 3 ∷ []) (body 6138 6138 ++ body (2 ^ 60 - 12276) (minus 6138))
    ∷ example (2 ∷ 1 ∷ []) apart (Forward 3 ∷ Back 2 ∷ []) (body 1023 2046 ++ body (2 ^ 60 - 2046) (minus 2046))
    -- one body keeps its momentum, and moves by it over its mass, cut off toward 0
    ∷ example (2 ∷ []) (body 0 5) (Forward 1 ∷ []) (body 2 5)
    ∷ example (2 ∷ []) (body 0 5) (Forward 3 ∷ []) (body 6 5)
    ∷ example (2 ∷ []) (body 0 (minus 5)) (Forward 1 ∷ []) (body (minus 2) (minus 5))
    ∷ example (2 ∷ []) (body 0 (minus 5)) (Forward 3 ∷ []) (body (minus 6) (minus 5))
    -- two bodies 2 ^ 63 apart, or at one place, stay at rest
    ∷ example (2 ∷ 1 ∷ []) (body 0 0 ++ body (2 ^ 63) 0) (Forward 1 ∷ []) (body 0 0 ++ body (2 ^ 63) 0)
    ∷ example (2 ∷ 1 ∷ []) (body 7 0 ++ body 7 0) (Forward 1 ∷ []) (body 7 0 ++ body 7 0)
    ∷ []

-- Every example's turns lead to the words that it expects; and the first of two bodies 2 ^ 60 apart gets an impulse of 2046.
abbrev pub Worked : Type 0
Worked = AllByRecursion (λ e. outcome e ≡ e.expected) examples × (impulse (2 ^ 20) 2 1 (position_at apart 0) (position_at apart 1) 0 ≡ 2046)
