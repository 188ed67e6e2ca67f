-- The library's bytes of the number are its four.
use Rattle.std.proofs.Common.{sym, rules}
use Rattle.words.proofs.InBytes.{library_bytes}
use Rattle.calls.proofs.coding.with_steps.Goals as goal

pub returns : goal.returns
returns c = rw (sym (library_bytes 4 c.args.steps)) (search rules)
