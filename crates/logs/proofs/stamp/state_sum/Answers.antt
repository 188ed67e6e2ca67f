-- The words in use are those of the state.
use Rattle.std.proofs.Common.{◌*◌, ◌∙◌, arith}
use Rattle.logs.proofs.Sums.{state_sum_same}
use Rattle.logs.proofs.stamp.state_sum.Goals as goal

pub returns : goal.returns
returns c =
    c.check_sum.ensures ∙ state_sum_same c.args.player.now.system.count c.args.state.now (λ k. (c.type_inv.state k).fits) (6 * c.count.result) (omega arith) c.requires
