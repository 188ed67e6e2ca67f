-- Both ways out hold the square within and the next one beyond, and the whole root is the only such number.
use Rattle.std.proofs.Common.{arith}
use Rattle.distance.specs.Root.{WholeRoot}
use Rattle.distance.proofs.Roots.{whole_root_is}
use Rattle.distance.proofs.root.Goals as goal

pub returns-then-square-guess : goal.returns-then-square-guess
returns-then-square-guess c =
    let root : WholeRoot c.args.square c.min-guess.result = record { square_within = omega arith; next_beyond = omega arith } in
    record { largest = root; value = whole_root_is _ _ (omega arith) root }

pub returns : goal.returns
returns c =
    let root : WholeRoot c.args.square c.loop-root.root = record { square_within = omega arith; next_beyond = c.loop-root.invariant.0 } in
    record { largest = root; value = whole_root_is _ _ (omega arith) root }
