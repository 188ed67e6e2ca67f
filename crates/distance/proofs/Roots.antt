-- The whole root: the definition is the largest whole number whose square is at most q, there is only one, and a step of
-- Newton's method never falls below it. Squares are compared by products of ordered factors.
use Rattle.std.proofs.Common.{◌≡◌, ℕ, zero, suc, ◌+◌, ◌-◌, ◌*◌, ◌/◌, ◌^◌, ◌<◌, ◌≤◌, inl, inr, le_antisymm, pow-suc, arith}
use native.Mathlib.Nat.{lt-mul-div-succ}
use Rattle.std.proofs.lemmas.Nat.{mul-le, div_below}
use Rattle.std.proofs.lemmas.Bool.Decides.{leb_tells}
use Rattle.distance.specs.Root.{WholeRoot, root_by_quarter, root_below, whole_root}

-- a root is at most any number whose next square is beyond q
pub root_least : (q r s : ℕ) → r * r ≤ q → q < (s + 1) * (s + 1) → r ≤ s
root_least q r s within beyond =
    elim (leb_tells r s) [
      | inl t ↦ t.1
      | inr t ↦ absurd (let p : (s + 1) * (s + 1) ≤ r * r = mul-le (s + 1) (s + 1) r r (omega arith) (omega arith) in omega arith)
    ]

pub root_unique : (q r s : ℕ) → WholeRoot q r → WholeRoot q s → r ≡ s
root_unique q r s h k =
    le_antisymm (root_least q r s h.square_within k.next_beyond) (root_least q s r k.square_within h.next_beyond)

by_quarter : (q h : ℕ) → WholeRoot (q / 4) h → WholeRoot q (root_by_quarter q h)
by_quarter q h root =
    elim (leb_tells ((2 * h + 1) * (2 * h + 1)) q) [
      | inl t ↦ rw t.0 (record { square_within = t.1; next_beyond = let n = root.next_beyond in omega arith })
      | inr t ↦ rw t.0 (record { square_within = let n = root.square_within in omega arith; next_beyond = t.1 })
    ]

-- the definition meets its meaning below 4 ^ k
root_below_whole : (k q : ℕ) → q < 4 ^ k → WholeRoot q (root_below k q)
unfolding root_below
root_below_whole zero q h = record { square_within = omega arith; next_beyond = omega arith }
root_below_whole (suc k) q h =
    by_quarter q (root_below k (q / 4)) (root_below_whole k (q / 4) (let e = pow-suc 4 k in omega arith))

pub whole_root_whole : (q : ℕ) → q < 2 ^ 64 → WholeRoot q (whole_root q)
whole_root_whole q h = root_below_whole 32 q h

-- what is a whole root is the one that the definition gives
pub whole_root_is : (q r : ℕ) → q < 2 ^ 64 → WholeRoot q r → r ≡ whole_root q
whole_root_is q r h root = root_unique q r (whole_root q) root (whole_root_whole q h)

-- a mean is at least the root of a product
mean_from : (a k : ℕ) → 4 * (a * (a + k)) ≤ (a + (a + k)) * (a + (a + k))
mean_from a k = omega arith

mean : (a b : ℕ) → 4 * (a * b) ≤ (a + b) * (a + b)
mean a b =
    elim (leb_tells a b) [
      | inl t ↦ let e : b ≡ a + (b - a) = omega arith in rw e (mean_from a (b - a))
      | inr t ↦ let e : a ≡ b + (a - b) = omega arith in rw e (let m = mean_from b (a - b) in omega arith)
    ]

pub newton_beyond : (q g : ℕ) → 1 ≤ g → q < ((g + q / g) / 2 + 1) * ((g + q / g) / 2 + 1)
newton_beyond q g h =
    let m = (g + q / g) / 2 in
    let over = lt-mul-div-succ q h in
    let means = mean g (q / g + 1) in
    let wide : (g + (q / g + 1)) * (g + (q / g + 1)) ≤ (2 * m + 2) * (2 * m + 2) = mul-le _ _ _ _ (omega arith) (omega arith) in
    omega arith

pub newton_falls : (q g : ℕ) → 1 ≤ g → q < g * g → (g + q / g) / 2 < g
newton_falls q g least h =
    let part : q / g < g = div_below q g g least h in
    omega arith
