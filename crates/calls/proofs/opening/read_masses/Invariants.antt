-- What is told of all bodies is what is told of those from `body` on, and the masses before are read.
use Rattle.std.proofs.Common.{◌≡◌, ◌-◌, length}
use Rattle.calls.specs.Opening.{MassesRead}
use Rattle.calls.specs.SystemBytes.{bodies_told}
use Rattle.calls.proofs.opening.read_masses.Given as goal

abbrev pub invariant-loop-body : goal.invariant-loop-body
invariant-loop-body l = (bodies_told l.bytes (length l.initial.masses) 0 ≡ bodies_told l.bytes (length l.initial.masses - l.body) l.body) × MassesRead l.bytes l.body l.masses
