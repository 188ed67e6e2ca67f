-- How far two bodies are apart, and the weight of that distance.
-- Assumes nothing: these are definitions.
use Rattle.std.specs.Prelude.{ℕ, ◌+◌, ◌*◌, ◌/◌, ◌^◌, ◌<◌, ◌≤◌}
use Rattle.std.specs.Int.{w64}
use Rattle.words.specs.Signed.{size}
use Rattle.distance.specs.Root.{whole_root}

-- the separation on an axis where positions differ by the word d: the size of d in units of 2 ^ 44, the fraction cut off
abbrev pub separation : ℕ → ℕ
separation d = size w64 d / 2 ^ 44

-- the squared distance of two bodies whose positions differ by the word d a on axis a, with the softening added
abbrev pub squared_distance : ℕ → (ℕ → ℕ) → ℕ
squared_distance softening d =
    separation (d 0) * separation (d 0) + separation (d 1) * separation (d 1) + separation (d 2) * separation (d 2) + softening

-- the weight of a squared distance q: 2 ^ 62 by q times its root, the fraction cut off
abbrev pub weight : ℕ → ℕ
weight q = 2 ^ 62 / (q * whole_root q)

-- the bounds that keep everything within 64 bits
pub record Bounded (softening : ℕ) (d : ℕ → ℕ) : Type 0 where
  pub separations : (a : ℕ) → a < 3 → separation (d a) ≤ 2 ^ 19
  pub squared_least : 2 ^ 20 ≤ squared_distance softening d
  pub squared_most : squared_distance softening d < 2 ^ 41
  pub root_least : 2 ^ 10 ≤ whole_root (squared_distance softening d)
  pub root_most : whole_root (squared_distance softening d) < 2 ^ 21
  pub weight_least : 1 ≤ weight (squared_distance softening d)
  pub weight_most : weight (squared_distance softening d) ≤ 2 ^ 32
