-- The bodies below `j` have had their exchange with body `i`.
use Rattle.motion.specs.Changes.{RowExchanged}
use Rattle.motion.proofs.mover.Mover.exchange_row.Given as goal

abbrev pub invariant-loop-j : goal.invariant-loop-j
invariant-loop-j l = RowExchanged l.self.system.now l.self.direction l.i l.j l.initial.state l.state
