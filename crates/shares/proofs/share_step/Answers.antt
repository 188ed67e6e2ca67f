-- Both take in rows that hold each body once, so neither refuses them, and both have what they carry.
use Rattle.shares.proofs.Accepted.{never, rows_accepted, state_taken}
use Rattle.shares.proofs.Merging.{merged_outside}
use Rattle.shares.proofs.share_step.Goals as goal

pub returns-in_err-take_in : goal.returns-in_err-take_in
returns-in_err-take_in c =
    let n = c.args.system.now.count in
    let rows = c.in_ok-size.ensures.rows.1 in
    absurd (never _ _ _ _ c.in_err-take_in.ensures.answer (rows_accepted n _ _ _ rows c.requires.first))

pub returns-in_err-take_in-2 : goal.returns-in_err-take_in-2
returns-in_err-take_in-2 c =
    let n = c.args.system.now.count in
    let rows = c.in_ok-size.ensures.rows.1 in
    absurd (never _ _ _ _ c.in_err-take_in-2.ensures.answer (rows_accepted n _ _ _ rows c.requires.second))

pub returns-clause-states : goal.returns-clause-states
returns-clause-states c =
    let system = c.args.system.now in
    let n = system.count in
    let rows = c.in_ok-size.ensures.rows.1 in
    let one = c.in_ok-take_in.ensures.state in
    let two = c.in_ok-take_in-2.ensures.state in
    let none = merged_outside system c.args.shared c.args.first.now c.args.second.now in
    record {
      first_state = state_taken n _ _ _ _ none rows.carried one;
      second_state = state_taken n _ _ _ _ none rows.carried two;
      first_behind = one.behind;
      second_behind = two.behind;
    }
