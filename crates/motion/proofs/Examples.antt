-- The worked examples, all by one computation.
use Rattle.std.proofs.Common.{◌≡◌, List, [], ◌∷◌, map, refl}
use Rattle.std.specs.List.{AllByRecursion}
use Rattle.distance.specs.Root.{root_below}
use Rattle.motion.specs.Bodies.{sum_of, impulses, kicked, step, drifted_back, step_back}
use Rattle.motion.specs.Travel.{again, travel}
use Rattle.motion.specs.Worked.{outcome, examples, Worked}

-- functions that make one list of another's elements agree on each
on_each : {X Y : Type 0} (f g : X → Y) (xs : List X) → map f xs ≡ map g xs → AllByRecursion (λ x. f x ≡ g x) xs
on_each f g [] e = tt
on_each f g (x ∷ xs) e = (cc, on_each f g xs (cc))

pub worked : Worked
unfolding travel again step step_back kicked drifted_back impulses sum_of root_below
worked = (on_each outcome (λ e. e.expected) examples refl, refl)
