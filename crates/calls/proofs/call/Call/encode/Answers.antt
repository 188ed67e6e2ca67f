-- Each kind appends its bytes, and what was appended is read as the call.
use Rattle.std.proofs.Common.{vec_items, arith}
use Rattle.calls.specs.declared.call.Call.TheVariants.{Forward, Back}
use Rattle.calls.proofs.Coded.{FitsBytes, encoded}
use Rattle.calls.proofs.call.Call.encode.Goals as goal

pub returns-in-Forward-clause-undone : goal.returns-in-Forward-clause-undone
unfolding FitsBytes
returns-in-Forward-clause-undone c =
    encoded c.args.self (Forward c.in-Forward.steps) c.extend_from_slice.result (vec_items c.args.bytes.now) (vec_items c.extend_from_slice.new.self) _ c.in-Forward.is (omega arith) c.with_steps.ensures c.extend_from_slice.ensures.items

pub returns-in-Back-clause-undone : goal.returns-in-Back-clause-undone
unfolding FitsBytes
returns-in-Back-clause-undone c =
    encoded c.args.self (Back c.in-Back.steps) c.extend_from_slice-in-Back.result (vec_items c.args.bytes.now) (vec_items c.extend_from_slice-in-Back.new.self) _ c.in-Back.is (omega arith) c.with_steps-in-Back.ensures c.extend_from_slice-in-Back.ensures.items
