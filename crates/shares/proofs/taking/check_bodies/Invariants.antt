-- What is told of all rows is what is told of those from `k` on.
use Rattle.std.proofs.Common.{◌≡◌, ◌-◌, ℕ, List}
use Rattle.shares.specs.Rows.{rows_in, rows_of}
use Rattle.shares.specs.Taking.{checking, rows_from, Distinct}
use Rattle.shares.proofs.taking.check_bodies.Given as goal

abbrev pub invariant-loop-k : goal.invariant-loop-k
invariant-loop-k l = (bytes : List ℕ) → l.rows ≡ rows_of bytes →
    (checking l.count bytes ≡ rows_from l.count bytes (rows_in bytes - l.k) l.k) × Distinct l.count bytes l.k
