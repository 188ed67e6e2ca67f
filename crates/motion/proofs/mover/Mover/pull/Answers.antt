-- It begins with no impulse, and each turn of the loop gives one more.
use Rattle.std.proofs.Common.{ℕ, ◌^◌, ◌<◌, get_or, rules}
use Rattle.motion.proofs.SharedSteps.{pulled_none, pulled_more}
use Rattle.motion.proofs.mover.Mover.pull.Goals as goal

pub loop-j-init : goal.loop-j-init
loop-j-init c =
    let words : (k : ℕ) → get_or c.args.state.now k 0 < 2 ^ 64 = λ k. search rules in
    pulled_none _ _ _ _ words

pub loop-j-preserved : goal.loop-j-preserved
loop-j-preserved c = pulled_more _ _ _ _ _ _ _ c.loop-j.invariant c.receive.ensures
