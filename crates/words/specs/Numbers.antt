-- Numbers that can be added and taken away, and the laws that make every step of such sums undoable.
-- Assumes nothing: these are definitions.
use Rattle.std.specs.Prelude.{◌≡◌}

-- the operations on a kind N of numbers
pub record Numbers (N : Type 0) : Type 0 where
  pub none : N
  pub plus : N → N → N
  pub less : N → N → N

-- sum and difference undo each other, and a sum depends neither on order nor on grouping
pub record Lawful {N : Type 0} (numbers : Numbers N) : Type 0 where
  pub plus-less : (a b : N) → numbers.less (numbers.plus a b) b ≡ a
  pub less-plus : (a b : N) → numbers.plus (numbers.less a b) b ≡ a
  pub plus_comm : (a b : N) → numbers.plus a b ≡ numbers.plus b a
  pub plus_assoc : (a b c : N) → numbers.plus (numbers.plus a b) c ≡ numbers.plus a (numbers.plus b c)
  pub none-plus : (a : N) → numbers.plus numbers.none a ≡ a
