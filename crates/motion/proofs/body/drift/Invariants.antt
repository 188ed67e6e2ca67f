-- Axes below `a` have their new positions, the others their old ones.
use Rattle.std.proofs.Common.{◌≡◌, ℕ, ◌+◌, ◌*◌, ◌<◌, ◌≤◌, get_or, w64}
use Rattle.words.specs.Signed.{divided}
use Rattle.motion.specs.Changes.{moved}
use Rattle.motion.proofs.body.drift.Given as goal

abbrev pub invariant-loop-a : goal.invariant-loop-a
invariant-loop-a l =
    ((k : ℕ) → k < 3 → get_or l.words (2 * k + 1) 0 ≡ get_or l.initial.words (2 * k + 1) 0)
    × ((k : ℕ) → k < l.a → get_or l.words (2 * k) 0
    ≡ moved l.direction (get_or l.initial.words (2 * k) 0) (divided w64 (get_or l.initial.words (2 * k + 1) 0) l.mass.value))
    × ((k : ℕ) → l.a ≤ k → k < 3 → get_or l.words (2 * k) 0 ≡ get_or l.initial.words (2 * k) 0)
