-- What the code adds up is the squared distance of the definition; its bounds keep the product and the quotient within 64 bits.
use Rattle.std.proofs.Common.{◌≡◌, ℕ, ◌*◌, ◌/◌, ◌^◌, ◌<◌, ◌≤◌, ap, ◌∙◌, arith}
use Rattle.distance.specs.Axes.{along}
use Rattle.distance.specs.Distance.{squared_distance, Bounded}
use Rattle.distance.specs.Root.{whole_root}
use Rattle.distance.proofs.Axis.{on_each}
use Rattle.distance.proofs.Bounds.{bounded, product_most}
use Rattle.distance.proofs.Distance.new.Goals as goal

-- the squared distance of the definition
q : goal.After-root-root → ℕ
q c = squared_distance c.args.softening.value (along c.args.differences)

squared_is : (c : goal.After-root-root) → c.squared_distance-squared.result ≡ q c
unfolding q
squared_is c = cc

bounds : (c : goal.After-root-root) → Bounded c.args.softening.value (along c.args.differences)
bounds c =
    bounded _ _ c.args.softening.least c.args.softening.most
    (on_each (λ a. along c.args.differences a < 2 ^ 64) c.element_fits.fits c.element_fits2.fits c.element_fits3.fits)

root_is : (c : goal.After-root-root) → c.root-root.result ≡ whole_root (q c)
root_is c = c.root-root.ensures.value ∙ ap whole_root (squared_is c)

product_is : (c : goal.After-root-root) → c.squared_distance-squared.result * c.root-root.result ≡ q c * whole_root (q c)
product_is c = let e = squared_is c in let f = root_is c in cc

most : (c : goal.After-root-root) → q c * whole_root (q c) ≤ 2 ^ 62
unfolding q
most c = product_most (q c) (bounds c).squared_least (bounds c).squared_most

pub overflow_mul-result : goal.overflow_mul-result
overflow_mul-result c = omega (arith, product_is c, most c)

pub returns : goal.returns
unfolding q
returns c = record {
  separations = cc;
  root = root_is c;
  weight = ap (λ n. 2 ^ 62 / n) (product_is c);
  bounds = bounds c;
}
