-- Read from the last byte to the first, each byte is the lowest digit of what was read so far.
use Rattle.std.proofs.Common.{rules}
use Rattle.words.proofs.InBytes.{number_by-fold}
use Rattle.words.proofs.bytes.number_in.Goals as goal

pub returns : goal.returns
returns c = search (rules, number_by-fold c.args.bytes.now)
