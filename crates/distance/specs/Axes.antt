-- The three axes of space, numbered 0, 1 and 2.
-- Assumes nothing: these are definitions.
use Rattle.std.specs.Prelude.{ℕ, List, [], ◌∷◌, slice_index}

-- what f gives on each of the three axes, in a row
abbrev pub by_axis : (ℕ → ℕ) → List ℕ
by_axis f = f 0 ∷ f 1 ∷ f 2 ∷ []

-- what such a row has on axis a
abbrev pub along : List ℕ → ℕ → ℕ
along xs a = slice_index xs a
