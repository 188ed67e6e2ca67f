-- What the two parts hold now is what the law gives to each of the two bodies.
use Rattle.std.proofs.Common.{◌≡◌, length, arith, rules}
use Rattle.std.proofs.lemmas.List.{places}
use Rattle.motion.proofs.Exchanges.{exchanged}
use Rattle.motion.proofs.mover.Mover.exchange.Goals as goal

pub returns : goal.returns
returns c =
    let six : length c.kick.new.words ≡ 6 = search (rules, places) in
    let six' : length c.kick-2.new.words ≡ 6 = search (rules, places) in
    exchanged c.args.self.now.system.now _ _ c.args.i c.args.j c.args.state.now _ _ _ _ _ c.requires.first c.requires.second c.requires.state
    six six' (omega arith) (omega arith) c.kick.ensures c.opposite.ensures c.kick-2.ensures c.impulse-impulse.ensures.value c.impulse-impulse.ensures.cancels
