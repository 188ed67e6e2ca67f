-- What the part holds now is what the law gives to the body.
use Rattle.std.proofs.Common.{◌≡◌, ◌+◌, ◌*◌, ◌≤◌, length, arith, rules}
use Rattle.std.proofs.lemmas.List.{places}
use Rattle.motion.proofs.SharedSteps.{received}
use Rattle.motion.proofs.mover.Mover.receive.Goals as goal

pub returns : goal.returns
returns c =
    let b = c.args.b in
    let six : length c.kick.new.words ≡ 6 = search (rules, places) in
    let room : 6 * b + 6 ≤ length c.args.state.now = omega arith in
    received c.args.self.now.system.now _ b c.args.j _ c.args.state.now _ _ room six (omega arith) c.kick.ensures c.impulse-impulse.ensures.value
