-- There is no way from a body to itself.
use Rattle.std.proofs.Common.{refl}
use Rattle.impulse.proofs.Pairs.{impulse_level}
use Rattle.impulse.proofs.no_impulse_on_itself.Goals as goal

pub returns : goal.returns
returns c = λ softening m n a here h. impulse_level softening m n a here here refl h
