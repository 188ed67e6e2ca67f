-- What is refused, by number and place.
-- Assumes nothing: these are definitions.
use Rattle.std.specs.Prelude.{ℕ, cond, List, ◌++◌, Ok, Err, codes, decimal, Result, nat_lt}
use Rattle.motion.specs.declared.refusal.Refusal.{Refusal}
use Rattle.motion.specs.declared.refusal.Refusal.TheVariants.{Length, Bodies, Range, Kind, Checkpoint, Absent, Time, StateShort, CheckpointsShort, WorkShort, RowsShort, Row, Record}

-- the number of a refusal
abbrev pub number_of : Refusal → ℕ
number_of (Length n) = 1
number_of Bodies = 2
number_of (Range at) = 3
number_of (Kind call) = 4
number_of (Checkpoint call) = 5
number_of (Absent call) = 6
number_of (Time call) = 7
number_of StateShort = 8
number_of CheckpointsShort = 8
number_of WorkShort = 8
number_of RowsShort = 8
number_of (Row k) = 9
number_of (Record call) = 10

-- its place
abbrev pub place_of : Refusal → ℕ
place_of (Length n) = n
place_of Bodies = 0
place_of (Range at) = at
place_of (Kind call) = call
place_of (Checkpoint call) = call
place_of (Absent call) = call
place_of (Time call) = call
place_of StateShort = 0
place_of CheckpointsShort = 1
place_of WorkShort = 2
place_of RowsShort = 3
place_of (Row k) = k
place_of (Record call) = call

-- a refusal in a line of text
abbrev pub refusal_text : ℕ → ℕ → List ℕ
refusal_text number place = codes "refused " ++ (decimal number ++ (codes " at " ++ decimal place))

abbrev pub refusal_line : Refusal → List ℕ
refusal_line e = refusal_text (number_of e) (place_of e)

-- an answer: what was asked for, or a refusal's number and place
pub data Told (X : Type 0) : Type 0 where
  good : X → Told X
  refused : ℕ → ℕ → Told X

abbrev pub told : {X : Type 0} → Result X Refusal → Told X
told (Ok x) = good x
told (Err e) = refused (number_of e) (place_of e)

-- slices of these lengths lent for a state and for work, where so many words are needed: too short a state is refused first
abbrev pub lent : ℕ → ℕ → ℕ → ℕ → Told (Unit {0})
lent state_needed work_needed state work =
    cond (nat_lt state state_needed) (refused 8 0) (cond (nat_lt work work_needed) (refused 8 2) (good tt))
