-- The bodies below `b` have been written.
use Rattle.calls.specs.Opening.{BodiesWritten}
use Rattle.calls.proofs.opening.write_state.Given as goal

abbrev pub invariant-loop-body : goal.invariant-loop-body
invariant-loop-body l = BodiesWritten l.bytes l.body l.initial.state l.state
