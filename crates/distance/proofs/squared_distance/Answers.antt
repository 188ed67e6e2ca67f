-- Each square is at most 2 ^ 38, so the sums stay far below 2 ^ 64.
use Rattle.std.proofs.Common.{arith}
use Rattle.distance.proofs.Bounds.{square_bound}
use Rattle.distance.proofs.squared_distance.Goals as goal

pub overflow_add-result : goal.overflow_add-result
overflow_add-result c = omega (arith, square_bound _ (c.requires 0 (omega arith)), square_bound _ (c.requires 1 (omega arith)))

pub overflow_add-result-2 : goal.overflow_add-result-2
overflow_add-result-2 c =
    omega (arith, square_bound _ (c.requires 0 (omega arith)), square_bound _ (c.requires 1 (omega arith)), square_bound _ (c.requires 2 (omega arith)))

pub overflow_add-result-3 : goal.overflow_add-result-3
overflow_add-result-3 c =
    omega (arith, square_bound _ (c.requires 0 (omega arith)), square_bound _ (c.requires 1 (omega arith)), square_bound _ (c.requires 2 (omega arith)))
