-- The words in use are cut off, a row is made on them, and they lie in front of what was behind them.
use Rattle.std.proofs.Common.{◌≡◌, ◌*◌, ◌≤◌, ◌++◌, length, sym, ap, ◌∙◌, arith, rules}
use Rattle.std.proofs.lemmas.List.{places}
use Rattle.motion.specs.Memory.{state_of, work_length}
use Rattle.motion.specs.Systems.{step_of, back_of}
use Rattle.motion.specs.Travel.{travel}
use Rattle.motion.proofs.Fairness.{timed}
use Rattle.motion.proofs.Lending.{state_in_front, behind_stays, long_enough}
use Rattle.motion.proofs.system.System.travel.Goals as goal

pub returns : goal.returns
returns c =
    let system = c.args.self.now in
    let n = system.count in
    let cut = rw c.in_ok-state.ensures.ok_part at c.split_at_mut_checked-halves.ensures.cases in
    let cut' = rw c.in_ok-work.ensures.ok_part at c.split_at_mut_checked-halves-2.ensures.cases in
    let ys = c.make_turns.new.state in
    let zs = c.make_turns.new.roots in
    let long : 6 * n ≤ length c.args.state.now = omega (arith, cut.4) in
    let long' : work_length n ≤ length c.args.work.now = omega (arith, cut'.4) in
    let six : length ys ≡ 6 * n = search (rules, places) in
    let pairs : length zs ≡ work_length n = search (rules, places) in
    let made : state_of n (ys ++ c.in_ok-state._behind.now) ≡ travel (step_of system) (back_of system) c.args.turns.now (state_of n c.args.state.now) =
    state_in_front n ys _ six ∙ c.make_turns.ensures
    ∙ ap (travel (step_of system) (back_of system) c.args.turns.now) (sym (ap (state_of n) cut.0 ∙ state_in_front n _ _ cut.1)) in
    record {
      outcome = record {
        told_so = long_enough _ _ _ _ long long';
        state_left = record { state = made; behind = behind_stays _ ys _ _ six cut.3 };
        work_left = behind_stays _ zs _ _ pairs cut'.3;
      };
      timed = timed system _ _ _ made;
    }
