-- A body of the share gets its impulses, and another is passed over.
use Rattle.std.proofs.Common.{sym, ◌∙◌}
use Rattle.motion.proofs.SharedSteps.{share_kicked_more, share_kicked_skip}
use Rattle.motion.proofs.mover.Mover.kick_share.Goals as goal
use Rattle.motion.proofs.mover.Mover.kick_share.Goals.{then-in_share, else-in_share}

pub loop-b-preserved : goal.loop-b-preserved
loop-b-preserved c = elim c.if-in_share.branch [
  | then-in_share w ↦ simp w.state-is (share_kicked_more _ _ _ _ _ _ _ c.loop-b.invariant w.pull.ensures)
  | else-in_share w ↦ simp w.state-is (share_kicked_skip _ _ _ _ _ _ (sym c.in_share.ensures ∙ w.if-in_share.false) c.loop-b.invariant)
]
