-- Kicks and drifts, in the order of the direction, make the step of the definitions.
use Rattle.std.proofs.Common.{◌≡◌, ℕ, ◌^◌, ◌<◌, List, get_or, subst, rules}
use Rattle.motion.specs.Changes.{AllDrifted, everyone}
use Rattle.motion.proofs.WholeSteps.{step_is, back_is}
use Rattle.motion.specs.declared.system.System.{System}
use Rattle.motion.specs.declared.turn.Direction.{Direction}
use Rattle.motion.specs.declared.turn.Direction.TheVariants.{Behind}
use Rattle.motion.proofs.mover.Mover.advance.Goals as goal

-- a drift in a direction that is back is one back
drifted_back : {system : System} {direction : Direction} {n : ℕ} {xs ys : List ℕ} → AllDrifted system direction everyone n xs ys → direction ≡ Behind →
    AllDrifted system Behind everyone n xs ys
drifted_back {system} {direction} {n} {xs} {ys} drift back = subst (λ d. AllDrifted system d everyone n xs ys) back drift

pub returns-in-Ahead : goal.returns-in-Ahead
returns-in-Ahead c =
    let fit : (k : ℕ) → get_or c.kick_all.new.state k 0 < 2 ^ 64 = λ k. search rules in
    simp c.in-Ahead.is (step_is c.args.self.now.system.now _ _ _ fit (rw c.in-Ahead.is at c.kick_all.ensures) (rw c.in-Ahead.is at c.drift.ensures))

pub returns-in-Behind : goal.returns-in-Behind
returns-in-Behind c =
    let fit : (k : ℕ) → get_or c.args.state.now k 0 < 2 ^ 64 = λ k. search rules in
    simp c.in-Behind.is (back_is c.args.self.now.system.now _ _ _ fit (drifted_back c.drift-in-Behind.ensures (search rules)) (rw c.in-Behind.is at c.kick_all-in-Behind.ensures))
