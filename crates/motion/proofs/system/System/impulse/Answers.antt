-- What is worked out from the masses and positions of two bodies is what the law gives them.
use Rattle.std.proofs.Common.{ℕ, ◌^◌, ◌<◌, get_or, rules}
use Rattle.motion.proofs.Exchanges.{first_gets, second_cancels}
use Rattle.motion.proofs.system.System.impulse.Goals as goal

pub returns : goal.returns
returns c =
    let words : (k : ℕ) → get_or c.args.state.now k 0 < 2 ^ 64 = λ k. search rules in
    record {
      value = first_gets c.args.self.now c.args.i c.args.j c.args.state.now _ _ _ _ _ c.requires.first c.requires.second words
          c.body.ensures.mass c.body-2.ensures.mass c.body.ensures.position c.body-2.ensures.position c.impulse_on.ensures.value c.impulse_on.ensures.pair;
      cancels = second_cancels c.args.self.now c.args.i c.args.j c.args.state.now _ _ _ _ _ c.requires.first c.requires.second words
          c.body.ensures.mass c.body-2.ensures.mass c.body.ensures.position c.body-2.ensures.position c.impulse_on.ensures.value c.impulse_on.ensures.pair;
    }
