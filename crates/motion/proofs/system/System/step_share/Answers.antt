-- The words in use are copied, a step of the share is made on the copy, and it lies in front of what was behind it.
use Rattle.std.proofs.Common.{◌≡◌, ◌*◌, ◌≤◌, length, ap, ◌∙◌, arith, rules}
use Rattle.std.proofs.lemmas.List.{places}
use Rattle.motion.specs.Memory.{state_of}
use Rattle.motion.specs.Systems.{stepped}
use Rattle.motion.proofs.Lending.{state_of_front, share_in_front, behind_stays, long_enough}
use Rattle.motion.proofs.system.System.step_share.Goals as goal

pub returns : goal.returns
returns c =
    let n = c.args.self.now.count in
    let xs = c.args.state.now in
    let read = rw c.in_ok-words.ensures.ok_part at c.get.ensures.lookup in
    let cut = rw c.in_ok-work.ensures.ok_part at c.split_at_mut_checked-halves.ensures.cases in
    let ys = c.advance_share.new.state in
    let long' : 6 * n ≤ length c.args.work.now = omega (arith, cut.4) in
    let six : length ys ≡ 6 * n = search (rules, places) in
    let copied : state_of n c.copy_from_slice.new.self ≡ state_of n xs =
    ap (state_of n) (c.copy_from_slice.ensures.after ∙ read.0.2) ∙ state_of_front n xs _ (omega arith) in
    record {
      told_so = long_enough _ _ _ _ read.0.1 long';
      work_left = share_in_front n _ _ _ ys _ six (ap (stepped c.args.direction c.args.self.now) copied) c.advance_share.ensures;
      behind = behind_stays _ ys _ _ six cut.3;
    }
