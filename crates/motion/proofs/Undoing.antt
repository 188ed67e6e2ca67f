-- Steps of bodies: a step back undoes a step since sum and difference undo each other, and sums over all bodies keep what a step must keep.
use Rattle.std.proofs.Common.{◌≡◌, ℕ, sym, ap, ◌∙◌}
use Rattle.words.specs.Numbers.{Numbers, Lawful}
use Rattle.motion.specs.Travel.{Undone, Keeps, Carries}
use Rattle.motion.specs.Bodies.{State, Law, Fair, Renumbering, sum_of, total_momentum, renumbered, shifted}
use Rattle.motion.specs.Bodies.{impulses, kicked, step, drifted_back, step_back}
use Rattle.motion.specs.Promises.{RenumberedLaw, ShiftInvariant}
use Rattle.motion.proofs.Rows.{keeps, carries}
use Rattle.motion.proofs.Sums.{plus_none, plus_right_comm, sum-plus, sum_opposites, sum_renumbered}

module _ {P D : Type 0} {positions : Numbers P} {momenta : Numbers D} (lawful : Lawful positions) (lawful_momenta : Lawful momenta) where
  module _ (law : Law P D) (n : ℕ) where
    -- a step back leads to the positions before the step
    pub drift_undone : (s : State P D) → drifted_back positions momenta law n (step positions momenta law n s) ≡ s.position
    unfolding step drifted_back
    drift_undone s = λ k i a. lawful.plus-less (s.position i a) (law.motion i a (kicked positions momenta law n s i a)) k

    -- a step leads to the momenta before the step back
    pub kick_undone : (s : State P D) → kicked positions momenta law n (step_back positions momenta law n s) ≡ s.momentum
    unfolding kicked step_back
    kick_undone s = λ k i a.
        lawful_momenta.less-plus (s.momentum i a) (impulses positions momenta law n (drifted_back positions momenta law n s) a i) k

    -- a step and a step back undo each other
    pub steps_undone : Undone (step positions momenta law n) (step_back positions momenta law n)
    unfolding step step_back kicked drifted_back
    steps_undone = record {
      step_back = λ s k. record {
        position = drift_undone s k;
        momentum = λ i a.
            (ap (λ x. momenta.less (kicked positions momenta law n s i a) (impulses positions momenta law n x a i)) (drift_undone s)
            ∙ lawful_momenta.plus-less (s.momentum i a) _) k;
      };
      back_step = λ s k. record {
        position = λ i a.
            (ap (λ p. positions.plus (drifted_back positions momenta law n s i a) (law.motion i a (p i a))) (kick_undone s)
            ∙ lawful.less-plus (s.position i a) _) k;
        momentum = kick_undone s k;
      };
    }

    -- the impulses of a fair law on all bodies add up to none
    pub impulses_cancel : Fair momenta law → (x : ℕ → ℕ → P) (a : ℕ) →
        sum_of momenta (impulses positions momenta law n x a) n ≡ momenta.none
    unfolding impulses
    impulses_cancel fair x a = sum_opposites lawful_momenta (law.impulse x a) n (fair.opposite x a) (fair.alone x a)

    -- a fair law keeps the total momentum along every axis
    pub momentum_kept : Fair momenta law → (a : ℕ) →
        Keeps (step positions momenta law n) (step_back positions momenta law n) (total_momentum momenta n a)
    unfolding step kicked
    momentum_kept fair a = keeps steps_undone (λ s. sum-plus lawful_momenta (λ i. s.momentum i a) _ n
        ∙ ap (momenta.plus _) (impulses_cancel fair s.position a) ∙ plus_none lawful_momenta _)

  module _ {n : ℕ} (r : Renumbering n) {law other : Law P D} (same : RenumberedLaw r.old law other) where
    -- the momenta after a step, numbered anew, are those after a step of the bodies numbered anew
    pub kick_renumbered : (s : State P D) (i a : ℕ) →
        kicked positions momenta law n s (r.old i) a ≡ kicked positions momenta other n (renumbered r.old s) i a
    unfolding kicked impulses
    kick_renumbered s i a = ap (momenta.plus _)
        (sym ((λ k. sum_of momenta (λ j. same.impulse_same s.position a i j k) n)
        ∙ sum_renumbered lawful_momenta r (λ j. law.impulse s.position a (r.old i) j)))

    -- a new numbering of the bodies carries every step over
    pub renumbering_carries : Carries (step positions momenta law n) (step_back positions momenta law n)
        (step positions momenta other n) (step_back positions momenta other n) (renumbered r.old)
    unfolding step
    renumbering_carries = carries (steps_undone law n) (steps_undone other n) (λ s k. record {
      position = λ i a.
          (ap (positions.plus (s.position (r.old i) a))
          (sym (same.motion_same i a _) ∙ ap (other.motion i a) (kick_renumbered s i a))) k;
      momentum = λ i a. kick_renumbered s i a k;
    })

  module _ (by : ℕ → P) (law : Law P D) (same : ShiftInvariant positions by law) (n : ℕ) where
    -- a shift of all positions leaves the momenta after a step as they are
    pub kick_shifted : (s : State P D) (i a : ℕ) →
        kicked positions momenta law n s i a ≡ kicked positions momenta law n (shifted positions by s) i a
    unfolding kicked impulses
    kick_shifted s i a = sym (λ k. momenta.plus (s.momentum i a) (sum_of momenta (λ j. same s.position a i j k) n))

    -- a shift of all positions carries every step over
    pub shifting_carries : Carries (step positions momenta law n) (step_back positions momenta law n)
        (step positions momenta law n) (step_back positions momenta law n) (shifted positions by)
    unfolding step
    shifting_carries = carries (steps_undone law n) (steps_undone law n) (λ s k. record {
      position = λ i a.
          (plus_right_comm lawful (s.position i a) _ (by a)
          ∙ ap (λ p. positions.plus (positions.plus (s.position i a) (by a)) (law.motion i a p)) (kick_shifted s i a)) k;
      momentum = λ i a. kick_shifted s i a k;
    })
