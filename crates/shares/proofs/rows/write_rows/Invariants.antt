-- The bodies of the share below `b` have their rows, and the next one begins at `at`.
use Rattle.std.proofs.Common.{◌≡◌, ◌*◌}
use Rattle.shares.specs.Rows.{RowsWritten, members}
use Rattle.shares.proofs.rows.write_rows.Given as goal

abbrev pub invariant-loop-b : goal.invariant-loop-b
invariant-loop-b l = RowsWritten l.share l.words l.b l.rows × (l.at ≡ 49 * members l.share l.b)
