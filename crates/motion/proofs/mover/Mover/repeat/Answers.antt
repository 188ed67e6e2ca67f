-- Each turn of the loop is one step more.
use Rattle.std.proofs.Common.{sym, ap, ◌∙◌}
use Rattle.motion.specs.Systems.{stepped}
use Rattle.motion.proofs.Rows.{again_none, again_one_more}
use Rattle.motion.proofs.mover.Mover.repeat.Goals as goal

pub loop-init : goal.loop-init
loop-init c = sym (again_none _ _)

pub loop-preserved : goal.loop-preserved
loop-preserved c = c.advance.ensures ∙ ap (stepped c.args.self.now.direction c.args.self.now.system.now) c.loop.invariant ∙ sym (again_one_more _ _ _)
