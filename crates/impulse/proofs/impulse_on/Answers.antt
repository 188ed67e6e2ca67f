-- The parts of the code, put together, are the impulse of the definition; its bounds are those of the distance.
use Rattle.std.proofs.Common.{ℕ, ◌*◌, ◌^◌, ◌<◌, [], ◌∷◌, ap, ◌∙◌, arith, rules}
use Rattle.distance.specs.Axes.{along}
use Rattle.distance.specs.Distance.{squared_distance}
use Rattle.distance.specs.Root.{whole_root}
use Rattle.distance.proofs.Axis.{on_each}
use Rattle.impulse.specs.Impulse.{Position, SmallFactors}
use Rattle.impulse.proofs.Pairs.{factors_on, impulse_along, pair_of_impulses}
use Rattle.impulse.proofs.impulse_on.Goals as goal
use Rattle.impulse.proofs.impulse_on.Goals.{After-value-2, at-along_axis-requires, at-along_axis-requires-2, at-along_axis-requires-3, at-returns}

factors : (c : After-value-2) (a : ℕ) → a < 3 →
    SmallFactors (along c.new-distance.result.separations a) c.new-distance.result.weight (c.value.result * c.value-2.result)
factors c =
    factors_on c.args.softening.value _ _ (along c.args.body.position) (along c.args.other.position) _ _ _ _ _ c.way_between-differences.ensures c.new-distance.ensures.separations
    c.new-distance.ensures.weight c.value.ensures c.value-2.ensures c.new-distance.ensures.bounds
    c.args.body.mass.most c.args.other.mass.most

pub along_axis-requires : goal.along_axis-requires
along_axis-requires c = factors (at-along_axis-requires c).After-value-2 0 (omega arith)

pub along_axis-requires-2 : goal.along_axis-requires-2
along_axis-requires-2 c = factors (at-along_axis-requires-2 c).After-value-2 1 (omega arith)

pub along_axis-requires-3 : goal.along_axis-requires-3
along_axis-requires-3 c = factors (at-along_axis-requires-3 c).After-value-2 2 (omega arith)

here : (c : goal.After-along_axis-3) → Position (along c.args.body.position)
here c = on_each (λ a. along c.args.body.position a < 2 ^ 64) (search rules) (search rules) (search rules)

there : (c : goal.After-along_axis-3) → Position (along c.args.other.position)
there c = on_each (λ a. along c.args.other.position a < 2 ^ 64) (search rules) (search rules) (search rules)

pub returns : goal.returns
returns c =
    let parts =
    impulse_along c.args.softening.value c.args.body.mass.value c.args.other.mass.value (along c.args.body.position) (along c.args.other.position)
    _ _ _ _ _ c.way_between-differences.ensures c.new-distance.ensures.separations
    c.new-distance.ensures.weight c.value.ensures c.value-2.ensures in
    record {
      value = λ i.
          (c.along_axis.ensures ∙ parts 0 (omega arith)) i ∷
          (c.along_axis-2.ensures ∙ parts 1 (omega arith)) i ∷
          (c.along_axis-3.ensures ∙ parts 2 (omega arith)) i ∷ [];
      root = c.new-distance.ensures.root ∙ ap (λ ds. whole_root (squared_distance c.args.softening.value (along ds))) c.way_between-differences.ensures;
      pair = λ a h.
          pair_of_impulses _ _ _ c.args.softening.least c.args.softening.most c.args.body.mass.most c.args.other.mass.most
          _ _ (here c) (there c) a (here c a h) (there c a h);
    }
