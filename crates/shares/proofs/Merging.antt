-- States that are merged: outside of the system there is nothing, and from one state the merged one is that of one computer.
use Rattle.std.proofs.Common.{◌≡◌, ℕ, ◌+◌, ◌<◌, ◌≤◌, Bool, true, false, cond, ◌⊎◌, List, [], ◌∷◌, ◌++◌, length, get_or, take, refl, ap, ◌∙◌}
use Rattle.std.proofs.lemmas.List.{take_more}
use Rattle.words.specs.Words.{word}
use Rattle.motion.specs.Changes.{member}
use Rattle.motion.specs.Memory.{state_of, inside}
use Rattle.motion.specs.Systems.{WordsState, stepped}
use Rattle.motion.specs.declared.system.System.{System}
use Rattle.motion.proofs.WholeSteps.{nothing_outside}
use Rattle.shares.specs.Together.{merged, Two, together_of, alone_of}
use Rattle.shares.specs.declared.SharedStep.{SharedStep}

either : {X : Type 0} (c : Bool) (x y z : X) → x ≡ z → y ≡ z → cond c x y ≡ z
either true x y z e f = e
either false x y z e f = f

pub merged_outside : (system : System) (shared : SharedStep) (xs ys : List ℕ) (b a : ℕ) → (3 ≤ a) ⊎ (system.count ≤ b) → inside system.count b a ≡ false →
    ((merged system shared (state_of system.count xs) (state_of system.count ys)).position b a ≡ word 64 0)
    × ((merged system shared (state_of system.count xs) (state_of system.count ys)).momentum b a ≡ word 64 0)
merged_outside system shared xs ys b a where_to out =
    let p = nothing_outside system shared.direction xs b a where_to out in
    let q = nothing_outside system shared.direction ys b a where_to out in
    (either (member shared.first b) _ _ _ p.0 q.0, either (member shared.first b) _ _ _ p.1 q.1)

-- from one state both computers make the step of one
merged_same : (system : System) (shared : SharedStep) (s : WordsState) → merged system shared s s ≡ stepped shared.direction system s
merged_same system shared s = λ i. record {
  position = λ b a. either (member shared.first b) _ _ ((stepped shared.direction system s).position b a) refl refl i;
  momentum = λ b a. either (member shared.first b) _ _ ((stepped shared.direction system s).momentum b a) refl refl i;
}

pub together_alone : (system : System) (steps : List SharedStep) (s : WordsState) →
    together_of system steps (record { first = s; second = s }) ≡ record { first = alone_of system steps s; second = alone_of system steps s }
unfolding together_of alone_of
together_alone system [] s = refl
together_alone system (shared ∷ steps) s =
    ap (λ m. together_of system steps (record { first = m; second = m })) (merged_same system shared s) ∙ together_alone system steps (stepped shared.direction system s)

-- one step more
together_push : (system : System) (steps : List SharedStep) (shared : SharedStep) (two : Two) →
    together_of system (steps ++ (shared ∷ [])) two
    ≡ (let t = together_of system steps two in record { first = merged system shared t.first t.second; second = merged system shared t.first t.second })
unfolding together_of
together_push system [] shared two = refl
together_push system (first ∷ steps) shared two = together_push system steps shared (record { first = merged system first two.first two.second; second = merged system first two.first two.second })

pub together_none : (system : System) (two : Two) → together_of system [] two ≡ two
unfolding together_of
together_none system two = refl

pub together_more : (system : System) (steps : List SharedStep) (i : ℕ) (d : SharedStep) (two : Two) → i < length steps →
    together_of system (take (i + 1) steps) two
    ≡ (let t = together_of system (take i steps) two in record { first = merged system (get_or steps i d) t.first t.second; second = merged system (get_or steps i d) t.first t.second })
together_more system steps i d two h = ap (λ l. together_of system l two) (take_more steps i d h) ∙ together_push system (take i steps) (get_or steps i d) two
