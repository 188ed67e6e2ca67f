-- The rows before this one have been written.
use Rattle.shares.specs.Taking.{RowsTaken}
use Rattle.shares.proofs.taking.take_rows.Given as goal

abbrev pub invariant-loop-row : goal.invariant-loop-row
invariant-loop-row l = RowsTaken l.bytes l.row-index l.state
