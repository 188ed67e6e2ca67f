-- The bounds of separations, squared distance, root and weight, each from the one before.
use Rattle.std.proofs.Common.{ℕ, ◌+◌, ◌-◌, ◌*◌, ◌^◌, ◌<◌, ◌≤◌, arith}
use Rattle.std.proofs.lemmas.Nat.{mul-le, div_below, le-div}
use Rattle.std.proofs.lemmas.Int.{ints}
use Rattle.distance.specs.Distance.{separation, squared_distance, weight, Bounded}
use Rattle.distance.specs.Root.{WholeRoot, whole_root}
use Rattle.distance.proofs.Roots.{root_least, whole_root_whole}

-- a separation is at most 2 ^ 19
pub separation_bound : (d : ℕ) → d < 2 ^ 64 → separation d ≤ 2 ^ 19
separation_bound d h = grind (arith, ints)

-- a separation's square
pub square_bound : (e : ℕ) → e ≤ 2 ^ 19 → e * e ≤ 2 ^ 38
square_bound e h = mul-le e e (2 ^ 19) (2 ^ 19) h h

-- root and weight of a squared distance q
module _ (q : ℕ) (least : 2 ^ 20 ≤ q) (most : q < 2 ^ 41) where
  root : WholeRoot q (whole_root q)
  root = whole_root_whole q (omega arith)

  pub root_from : 2 ^ 10 ≤ whole_root q
  root_from = root_least q (2 ^ 10) (whole_root q) (omega arith) root.next_beyond

  pub root_below : whole_root q < 2 ^ 21
  root_below = let h = root_least q (whole_root q) (2 ^ 21 - 1) root.square_within (omega arith) in omega arith

  pub product_least : 2 ^ 30 ≤ q * whole_root q
  product_least = mul-le (2 ^ 20) (2 ^ 10) q (whole_root q) least root_from

  pub product_most : q * whole_root q ≤ 2 ^ 62
  product_most = mul-le q (whole_root q) (2 ^ 41) (2 ^ 21) (omega arith) (let h = root_below in omega arith)

  pub weight_from : 1 ≤ weight q
  weight_from = le-div 1 (2 ^ 62) (q * whole_root q) (let h = product_least in omega arith) (let h = product_most in omega arith)

  pub weight_to : weight q ≤ 2 ^ 32
  weight_to =
      let h = product_least in
      let below = div_below (2 ^ 62) (q * whole_root q) (2 ^ 32 + 1) (omega arith) (omega arith) in
      omega arith

pub bounded : (softening : ℕ) (d : ℕ → ℕ) → 2 ^ 20 ≤ softening → softening ≤ 2 ^ 40 → ((a : ℕ) → a < 3 → d a < 2 ^ 64) → Bounded softening d
bounded softening d least most words =
    let e : (a : ℕ) → a < 3 → separation (d a) ≤ 2 ^ 19 = λ a h. separation_bound (d a) (words a h) in
    let s0 = square_bound (separation (d 0)) (e 0 (omega arith)) in
    let s1 = square_bound (separation (d 1)) (e 1 (omega arith)) in
    let s2 = square_bound (separation (d 2)) (e 2 (omega arith)) in
    let low : 2 ^ 20 ≤ squared_distance softening d = omega arith in
    let high : squared_distance softening d < 2 ^ 41 = omega arith in
    record {
      separations = e;
      squared_least = low;
      squared_most = high;
      root_least = root_from _ low high;
      root_most = root_below _ low high;
      weight_least = weight_from _ low high;
      weight_most = weight_to _ low high;
    }
