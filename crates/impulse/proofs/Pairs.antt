-- The impulses of two bodies cancel, since the way back is the opposite word, of the same size; and they stay small, since
-- separation and weight do.
use Rattle.std.proofs.Common.{◌≡◌, ℕ, ◌*◌, ◌/◌, ◌^◌, ◌<◌, ◌≤◌, List, refl, ap, ◌∙◌, mod-lt, mul_comm, mul-zero, zero-mul, arith, pow_pos, w64}
use Rattle.std.proofs.lemmas.Nat.{mul-le}
use Rattle.std.proofs.lemmas.Int.{ints}
use Rattle.std.proofs.lemmas.Bool.Decides.{nat_tests}
use Rattle.words.specs.Signed.{size}
use Rattle.words.specs.Words.{plus, less}
use Rattle.distance.specs.Axes.{by_axis, along}
use Rattle.distance.specs.Distance.{separation, squared_distance, weight, Bounded}
use Rattle.distance.proofs.Axis.{on_each, along_by_axis}
use Rattle.distance.proofs.Bounds.{bounded, separation_bound}
use Rattle.impulse.specs.Impulse.{with_sign_of, way, weighed, impulse, SmallFactors, Position, PairOfImpulses}

-- separation times weight
pub weighed_small : (e w : ℕ) → e ≤ 2 ^ 19 → w ≤ 2 ^ 32 → e * w ≤ 2 ^ 51
weighed_small e w h k = mul-le e w (2 ^ 19) (2 ^ 32) h k

-- the size of an impulse
pub strength_small : (e w p : ℕ) → SmallFactors e w p → e * w / 2 ^ 20 * p < 2 ^ 52
strength_small e w p factors =
    let small = weighed_small e w factors.near factors.light in
    let b = mul-le (e * w / 2 ^ 20) p (2 ^ 31) (1023 * 1023) (omega arith) factors.both in
    omega arith

-- the way back is the opposite word
way_back : (x y : ℕ) → x < 2 ^ 64 → y < 2 ^ 64 → less 64 x y ≡ less 64 0 (less 64 y x)
way_back x y h k = omega arith

size_opposite : (d : ℕ) → d < 2 ^ 64 → size w64 (less 64 0 d) ≡ size w64 d
size_opposite d h = grind (arith, ints)

-- what has opposite signs cancels, if it is 0 where there is no way at all
signs_cancel : (d n : ℕ) → d < 2 ^ 64 → n < 2 ^ 64 → (d ≡ 0 → n ≡ 0) → plus 64 (with_sign_of d n) (with_sign_of (less 64 0 d) n) ≡ 0
signs_cancel d n h k still = grind (arith, nat_tests)

positive_with_sign : (d n : ℕ) → n < 2 ^ 52 → d < 2 ^ 63 → with_sign_of d n < 2 ^ 63
positive_with_sign d n h k = grind (arith, nat_tests)

negative_with_sign : (d n : ℕ) → n < 2 ^ 52 → 2 ^ 63 < d → with_sign_of d n < 2 ^ 63 → with_sign_of d n ≡ 0
negative_with_sign d n h k = grind (arith, nat_tests)

word_with_sign : (d n : ℕ) → n < 2 ^ 52 → with_sign_of d n < 2 ^ 64
word_with_sign d n h = grind (arith, nat_tests)

size_with_sign : (d n : ℕ) → n < 2 ^ 52 → size w64 (with_sign_of d n) < 2 ^ 52
size_with_sign d n h = grind (arith, nat_tests, ints)

-- the separations of the way back are those of the way
separation_back : (x y : ℕ) → x < 2 ^ 64 → y < 2 ^ 64 → separation (less 64 x y) ≡ separation (less 64 y x)
separation_back x y h k =
    ap (λ n. n / 2 ^ 44) (ap (size w64) (way_back x y h k) ∙ size_opposite (less 64 y x) (mod-lt _ (pow_pos 64)))

-- where there is no way, there is no strength
no_way : (d w p : ℕ) → d ≡ 0 → separation d * w / 2 ^ 20 * p ≡ 0
no_way d w p e = rw e (simp zero-mul)

module _ (softening : ℕ) (x y : ℕ → ℕ) (from : Position x) (to : Position y) where
  squared_back : squared_distance softening (way y x) ≡ squared_distance softening (way x y)
  squared_back =
      let e0 = separation_back (x 0) (y 0) (from 0 (omega arith)) (to 0 (omega arith)) in
      let e1 = separation_back (x 1) (y 1) (from 1 (omega arith)) (to 1 (omega arith)) in
      let e2 = separation_back (x 2) (y 2) (from 2 (omega arith)) (to 2 (omega arith)) in
      cc

  weighed_back : (a : ℕ) → x a < 2 ^ 64 → y a < 2 ^ 64 → weighed softening (way y x) a ≡ weighed softening (way x y) a
  weighed_back a h k = let e = separation_back (x a) (y a) h k in let f = ap weight squared_back in cc

module _ (softening m n : ℕ) (least : 2 ^ 20 ≤ softening) (most : softening ≤ 2 ^ 40) (light : m ≤ 1023) (light' : n ≤ 1023)
    (x y : ℕ → ℕ) (from : Position x) (to : Position y) (a : ℕ) (at_x : x a < 2 ^ 64) (at_y : y a < 2 ^ 64) where
  pub pair_of_impulses : PairOfImpulses softening m n x y a
  pair_of_impulses =
      let d = way x y a in
      let words : (b : ℕ) → b < 3 → way x y b < 2 ^ 64 = λ b _. mod-lt _ (pow_pos 64) in
      let limits : Bounded softening (way x y) = bounded softening (way x y) least most words in
      let e = separation d in
      let w = weight (squared_distance softening (way x y)) in
      let near : e ≤ 2 ^ 19 = separation_bound d (mod-lt _ (pow_pos 64)) in
      let masses : m * n ≤ 1023 * 1023 = mul-le m n 1023 1023 light light' in
      let small = strength_small e w (m * n) (record { near = near; light = limits.weight_most; both = masses }) in
      let strength = e * w / 2 ^ 20 * (m * n) in
      let still : d ≡ 0 → strength ≡ 0 = no_way d w (m * n) in
      let back : impulse softening n m y x a ≡ with_sign_of (less 64 0 d) strength =
      let p = way_back (x a) (y a) at_x at_y in
      let q = weighed_back softening x y from to a at_x at_y in
      let r = mul_comm n m in
      cc in
      record {
        cancel = ap (plus 64 (impulse softening m n x y a)) back ∙ signs_cancel d strength (mod-lt _ (pow_pos 64)) (omega arith) still;
        toward = positive_with_sign d strength small;
        toward_below = negative_with_sign d strength small;
        a_word = word_with_sign d strength small;
        weighed_bound = let b = weighed_small e w near limits.weight_most in omega arith;
        impulse_bound = size_with_sign d strength small;
      }

-- there is no impulse along an axis on which two bodies are level
pub impulse_level : (softening m n a : ℕ) (here there : ℕ → ℕ) → here a ≡ there a → here a < 2 ^ 64 → impulse softening m n here there a ≡ 0
impulse_level softening m n a here there e h =
    let still : way here there a ≡ 0 = omega arith in
    let none = no_way (way here there a) (weight (squared_distance softening (way here there))) (m * n) still in
    ap (with_sign_of (way here there a)) none ∙ rw still refl

-- nor on what has no mass
pub impulse_massless : (softening n a : ℕ) (here there : ℕ → ℕ) → impulse softening 0 n here there a ≡ 0
impulse_massless softening n a here there =
    ap (with_sign_of (way here there a)) (simp (zero-mul, mul-zero)) ∙ signless (way here there a)
  where
    signless : (d : ℕ) → with_sign_of d 0 ≡ 0
    signless d = grind (arith, nat_tests)

-- along the way itself, what the code puts together is the impulse by its definition
from_parts : (softening m n : ℕ) (x y : ℕ → ℕ) (a : ℕ) → a < 3 →
    with_sign_of (along (by_axis (way x y)) a)
    (along (by_axis (λ b. separation (along (by_axis (way x y)) b))) a * weight (squared_distance softening (along (by_axis (way x y)))) / 2 ^ 20 * (m * n))
    ≡ impulse softening m n x y a
from_parts softening m n x y =
    on_each (λ a. with_sign_of (along (by_axis (way x y)) a)
    (along (by_axis (λ b. separation (along (by_axis (way x y)) b))) a * weight (squared_distance softening (along (by_axis (way x y)))) / 2 ^ 20 * (m * n))
    ≡ impulse softening m n x y a)
    refl refl refl

-- what a measured distance gives on each axis
module _ (softening m n : ℕ) (x y : ℕ → ℕ) (ds es : List ℕ) (w p q : ℕ) (differences : ds ≡ by_axis (way x y))
    (separations : es ≡ by_axis (λ a. separation (along ds a))) (weighs : w ≡ weight (squared_distance softening (along ds)))
    (mass : p ≡ m) (mass' : q ≡ n) where
  pub factors_on : Bounded softening (along ds) → m ≤ 1023 → n ≤ 1023 → (a : ℕ) → a < 3 → SmallFactors (along es a) w (p * q)
  factors_on limits light light' a h = record {
    near = rw separations (rw (along_by_axis (λ b. separation (along ds b)) a h) (limits.separations a h));
    light = rw weighs limits.weight_most;
    both = mul-le p q 1023 1023 (omega arith) (omega arith);
  }

  pub impulse_along : (a : ℕ) → a < 3 → with_sign_of (along ds a) (along es a * w / 2 ^ 20 * (p * q)) ≡ impulse softening m n x y a
  impulse_along a h =
      let all : es ≡ by_axis (λ b. separation (along (by_axis (way x y)) b)) =
      separations ∙ ap (λ xs. by_axis (λ b. separation (along xs b))) differences in
      let heavy : w ≡ weight (squared_distance softening (along (by_axis (way x y)))) =
      weighs ∙ ap (λ xs. weight (squared_distance softening (along xs))) differences in
      (λ i. with_sign_of (along (differences i) a) (along (all i) a * heavy i / 2 ^ 20 * (mass i * mass' i)))
      ∙ from_parts softening m n x y a h
