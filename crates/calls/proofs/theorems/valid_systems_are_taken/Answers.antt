-- Each look tests one part.
use Rattle.calls.proofs.Validity.{taken_valid, valid_taken}
use Rattle.calls.proofs.theorems.valid_systems_are_taken.Goals as goal

pub returns : goal.returns
returns c = λ bytes. (taken_valid bytes, valid_taken bytes)
