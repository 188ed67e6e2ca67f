-- The mass of a body, read from the array of masses.
use Rattle.std.proofs.Common.{◌≡◌, ℕ, zero, suc, ◌<◌, ◌≤◌, List, [], ◌∷◌, map, length, get_or, take, sym, refl, ap, ◌∙◌, le_of_suc-le-suc, not-suc-le-zero, arith}
use Rattle.std.proofs.lemmas.List.{get_or-map}
use Rattle.words.specs.Masses.{Mass}

pub mass_read : (ms all : List Mass) (n b : ℕ) (m : Mass) → b < length ms → m ≡ get_or ms b m → ms ≡ take n all → m.value ≡ get_or (map (λ m. m.value) (take n all)) b 0
mass_read ms all n b m h is e =
    ap (λ m. m.value) is ∙ sym (get_or-map (λ m. m.value) ms b m 0 h) ∙ ap (λ l. get_or (map (λ m. m.value) l) b 0) e

-- there is no mass behind the last body
pub mass_beyond : (ms : List Mass) (n b : ℕ) → n ≤ b → get_or (map (λ m. m.value) (take n ms)) b 0 ≡ 0
mass_beyond [] zero b h = refl
mass_beyond [] (suc n) b h = refl
mass_beyond (m ∷ ms) zero b h = refl
mass_beyond (m ∷ ms) (suc n) zero h = absurd (not-suc-le-zero h)
mass_beyond (m ∷ ms) (suc n) (suc b) h = mass_beyond ms n b (le_of_suc-le-suc h)

-- no mass is above 1,023
pub mass_light : (ms : List Mass) (n b : ℕ) → get_or (map (λ m. m.value) (take n ms)) b 0 ≤ 1023
mass_light [] zero b = omega arith
mass_light [] (suc n) b = omega arith
mass_light (m ∷ ms) zero b = omega arith
mass_light (m ∷ ms) (suc n) zero = m.most
mass_light (m ∷ ms) (suc n) (suc b) = mass_light ms n b
