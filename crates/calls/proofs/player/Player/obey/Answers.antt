-- Each kind of call does what the machine does.
use Rattle.std.proofs.Common.{◌≡◌, ◌*◌, ◌≤◌, length, pos, ◌+ℤ◌, ◌-ℤ◌, neg_ℤ, sym, ap, subst, arith, w64, SFits, to_z, of_z, rules}
use Rattle.std.proofs.lemmas.Int.{ints}
use Rattle.motion.specs.declared.refusal.Refusal.TheVariants.{Time, Checkpoint}
use Rattle.calls.specs.Checkpoints.{checkpoints_length, machine_of, kept_in}
use Rattle.calls.specs.Machine.{obey, rules_of}
use Rattle.calls.specs.Outcomes.{checkpoints_after}
use Rattle.calls.proofs.Moved.{Promised, by_steps, to_checkpoint, marked}
use Rattle.calls.proofs.player.Player.obey.Goals as goal

pub returns-in-Forward-clause-left : goal.returns-in-Forward-clause-left
returns-in-Forward-clause-left c =
    let player = c.args.self.now in
    let state = c.args.state.now in
    let kept = c.args.checkpoints.now in
    let k = c.args.number in
    let obeyed = obey (rules_of player.system) (machine_of player state kept) k in
    let steps = c.in-Forward.steps in
    let way : to_z w64 (of_z w64 player.time) +ℤ to_z w64 (of_z w64 c.from.result) ≡ player.time +ℤ pos steps = omega (arith, ints) in
    by_steps k c.args.call player c.arrive.new.self state c.arrive.new.state
    kept c.args.work.now c.arrive.new.work c.arrive.result c.checked_add-to.result _ (pos steps) (Time k) way
    c.checked_add-to.ensures c.arrive.ensures (ap obeyed c.in-Forward.is) (ap (checkpoints_after player.system.count player.time state kept) c.in-Forward.is)

pub returns-in-Back-clause-left : goal.returns-in-Back-clause-left
returns-in-Back-clause-left c =
    let player = c.args.self.now in
    let state = c.args.state.now in
    let kept = c.args.checkpoints.now in
    let k = c.args.number in
    let obeyed = obey (rules_of player.system) (machine_of player state kept) k in
    let steps = c.in-Back.steps in
    let way : to_z w64 (of_z w64 player.time) -ℤ to_z w64 (of_z w64 c.from-in-Back.result) ≡ player.time +ℤ neg_ℤ (pos steps) = omega (arith, ints) in
    by_steps k c.args.call player c.arrive-in-Back.new.self state c.arrive-in-Back.new.state
    kept c.args.work.now c.arrive-in-Back.new.work c.arrive-in-Back.result c.checked_sub-to.result _ (neg_ℤ (pos steps)) (Time k) way
    c.checked_sub-to.ensures c.arrive-in-Back.ensures (ap obeyed c.in-Back.is) (ap (checkpoints_after player.system.count player.time state kept) c.in-Back.is)

pub returns-in-GoTo-clause-left : goal.returns-in-GoTo-clause-left
returns-in-GoTo-clause-left c =
    let player = c.args.self.now in
    let state = c.args.state.now in
    let kept = c.args.checkpoints.now in
    let k = c.args.number in
    let obeyed = obey (rules_of player.system) (machine_of player state kept) k in
    let to = c.in-GoTo.mark in
    to_checkpoint k c.args.call player c.arrive-in-GoTo.new.self state c.arrive-in-GoTo.new.state
    kept c.args.work.now c.arrive-in-GoTo.new.work c.arrive-in-GoTo.result c.kept_time-to.result (kept_in player.system.count kept to) (Checkpoint k)
    c.kept_time-to.ensures c.arrive-in-GoTo.ensures (ap obeyed c.in-GoTo.is)
    (ap (checkpoints_after player.system.count player.time state kept) c.in-GoTo.is)

pub returns-in-Mark-clause-left : goal.returns-in-Mark-clause-left
returns-in-Mark-clause-left c =
    let player = c.args.self.now in
    let state = c.args.state.now in
    let kept = c.args.checkpoints.now in
    let k = c.args.number in
    let fits : SFits w64 player.time = search rules in
    let front : 6 * player.system.count ≤ length state = search rules in
    let room : checkpoints_length player.system.count ≤ length kept = search rules in
    subst
    (λ call. Promised k call c.mark.result player player state state kept c.mark.new.checkpoints c.args.work.now c.args.work.now)
    (sym c.in-Mark.is)
    (marked k c.in-Mark.mark player state kept c.mark.new.checkpoints c.args.work.now fits front room
    c.mark.result c.mark.ensures.answer c.mark.ensures.left)
