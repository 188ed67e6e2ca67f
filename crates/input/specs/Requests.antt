-- What the words of a command line ask for.
-- Assumes nothing: these are definitions.
use Rattle.std.specs.Prelude.{◌≡◌, ◌≢◌, ◌∷◌, ℕ, List, [], true, ◌==◌, codes, string_bytes, String}
use Rattle.std.specs.List.{starts_with}
use Rattle.std.specs.declared.alloc.Global.{Global}
use Rattle.input.specs.declared.Request.{Request}
use Rattle.input.specs.declared.Request.TheVariants.{Help, ByOption, Files}

-- the text of the first word, which is empty where there are no words
abbrev pub first_text : List (String Global) → List ℕ
first_text [] = []
first_text (first ∷ _) = string_bytes first

-- the text is that of an option
abbrev pub IsOption : List ℕ → Type 0
IsOption text = starts_with (λ a b. a == b) text (codes "--") ≡ true

-- these words ask for this
abbrev pub Asks : List (String Global) → Request → Type 0
Asks words Help = first_text words ≡ codes "--help"
Asks words (ByOption option rest) = IsOption (first_text words) × (first_text words ≢ codes "--help") × (words ≡ option.now ∷ rest.now)
Asks words (Files names) = (IsOption (first_text words) → ⊥) × (names.now ≡ words)
