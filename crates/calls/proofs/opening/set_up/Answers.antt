-- The state is written, and the checkpoints are cleared.
use Rattle.std.proofs.Common.{◌*◌, ◌≤◌, ◌++◌, length, drop, replicate, refl, ap, ◌∙◌, arith, rules}
use Rattle.std.proofs.lemmas.List.{length-take-le}
use Rattle.calls.proofs.Opened.{opened}
use Rattle.calls.proofs.opening.set_up.Goals as goal

pub returns-clause-left : goal.returns-clause-left
returns-clause-left c =
    let bytes = c.args.bytes.now in
    let kept = c.args.checkpoints.now in
    let m = 16 * c.checkpoint_size.result in
    let most : m ≤ length kept = search rules in
    let cleared = c.fill.ensures.after (λ y e. e) ∙ ap (λ k. replicate k 0) (length-take-le m kept most) in
    opened bytes c.args.system _ c.count.result m c.args.state.now c.write_state.new.state kept _ refl c.requires c.count.ensures c.write_state.ensures (omega arith)
    (ap (λ l. l ++ drop m kept) cleared)
