-- What calls answer, and the line of text that tells it.
-- Assumes nothing: these are definitions.
use Rattle.std.specs.Prelude.{ℕ, List, [], ◌∷◌, ◌++◌, ℤ, codes}
use Rattle.std.specs.Fmt.{signed_decimal}
use Rattle.calls.specs.declared.answer.Answer.{Answer}
use Rattle.calls.specs.declared.answer.Answer.TheVariants.{Time, Reading}

-- the values that an answer tells, one or three: the time; of a body that is read, its position and its momentum behind it
abbrev pub values_of : Answer → List ℤ
values_of (Time t) = t ∷ []
values_of (Reading t p m) = t ∷ p ∷ m ∷ []

-- what stands in front of each value in a line
abbrev pub labels : List (List ℕ)
labels = codes "time " ∷ codes " place " ∷ codes " drive " ∷ []

-- values behind their labels
abbrev pub labelled : List (List ℕ) → List ℤ → List ℕ
labelled [] values = []
labelled (label ∷ more) [] = []
labelled (label ∷ more) (value ∷ values) = label ++ (signed_decimal value ++ labelled more values)

-- an answer in a line of text
abbrev pub answer_text : Answer → List ℕ
answer_text answer = labelled labels (values_of answer)
