-- Axes below `a` have their new momenta, the others their old ones.
use Rattle.std.proofs.Common.{◌≡◌, ℕ, ◌+◌, ◌*◌, ◌<◌, ◌≤◌, get_or}
use Rattle.distance.specs.Axes.{along}
use Rattle.motion.specs.Changes.{moved}
use Rattle.motion.proofs.body.kick.Given as goal

abbrev pub invariant-loop-a : goal.invariant-loop-a
invariant-loop-a l =
    ((k : ℕ) → k < 3 → get_or l.words (2 * k) 0 ≡ get_or l.initial.words (2 * k) 0)
    × ((k : ℕ) → k < l.a → get_or l.words (2 * k + 1) 0 ≡ moved l.direction (get_or l.initial.words (2 * k + 1) 0) (along l.fn.impulse k))
    × ((k : ℕ) → l.a ≤ k → k < 3 → get_or l.words (2 * k + 1) 0 ≡ get_or l.initial.words (2 * k + 1) 0)
