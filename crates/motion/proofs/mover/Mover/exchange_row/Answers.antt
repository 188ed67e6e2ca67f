-- The row begins with no exchange, and each turn makes one more.
use Rattle.std.proofs.Common.{ℕ, ◌^◌, ◌<◌, get_or, arith, rules}
use Rattle.motion.proofs.Kicks.{row_none, row_more}
use Rattle.motion.proofs.mover.Mover.exchange_row.Goals as goal

pub loop-j-init : goal.loop-j-init
loop-j-init c =
    let words : (k : ℕ) → get_or c.args.state.now k 0 < 2 ^ 64 = λ k. search rules in
    row_none _ _ _ _ words

pub loop-j-preserved : goal.loop-j-preserved
loop-j-preserved c = row_more _ _ _ _ _ _ _ (omega arith) c.loop-j.invariant c.exchange.ensures
