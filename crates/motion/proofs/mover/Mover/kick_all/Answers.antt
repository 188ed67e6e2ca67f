-- Each turn makes one more row; the roots of row i are the first that are left.
use Rattle.std.proofs.Common.{arith}
use Rattle.motion.proofs.Kicks.{kicked_more}
use Rattle.motion.proofs.mover.Mover.kick_all.Goals as goal

pub loop-i-preserved : goal.loop-i-preserved
loop-i-preserved c = record {
  done = kicked_more _ _ _ _ _ _ c.loop-i.invariant.done c.exchange_row.ensures;
  left = omega (arith, c.loop-i.invariant.left, c.split_at_mut-row.ensures.back_len);
}
