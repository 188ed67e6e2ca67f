-- The mass of a body, as the code has it.
-- Assumes nothing: this is a definition.
use Rattle.words.specs.declared.ranged.Ranged.{Ranged}

-- a number from 1 to 1,023
abbrev pub Mass : Type 0
Mass = Ranged 1 1023
