-- Kicks and drifts, in the order of the direction, make the step of the definitions for the bodies of the share.
use Rattle.std.proofs.Common.{ℕ, ◌^◌, ◌<◌, get_or, rules}
use Rattle.motion.proofs.WholeSteps.{share_step_is, share_back_is}
use Rattle.motion.proofs.mover.Mover.advance_share.Goals as goal

pub returns-in-Ahead : goal.returns-in-Ahead
returns-in-Ahead c =
    let fit : (k : ℕ) → get_or c.kick_share.new.state k 0 < 2 ^ 64 = λ k. search rules in
    let fit' : (k : ℕ) → get_or c.drift.new.state k 0 < 2 ^ 64 = λ k. search rules in
    simp c.in-Ahead.is (share_step_is c.args.self.now.system.now c.args.share.now _ _ _ fit fit' (rw c.in-Ahead.is at c.kick_share.ensures) (rw c.in-Ahead.is at c.drift.ensures))

pub returns-in-Behind : goal.returns-in-Behind
returns-in-Behind c =
    let fit : (k : ℕ) → get_or c.args.state.now k 0 < 2 ^ 64 = λ k. search rules in
    let fit' : (k : ℕ) → get_or c.kick_share-in-Behind.new.state k 0 < 2 ^ 64 = λ k. search rules in
    simp c.in-Behind.is (share_back_is c.args.self.now.system.now c.args.share.now _ _ _ fit fit' (rw c.in-Behind.is at c.drift-in-Behind.ensures) (rw c.in-Behind.is at c.kick_share-in-Behind.ensures))
