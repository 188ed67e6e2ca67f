-- Each turn moves one byte from what is left to what is written.
use Rattle.std.proofs.Common.{length, sym, ◌∙◌, arith}
use Rattle.words.proofs.InBytes.{bytes_more, bytes_all}
use Rattle.words.proofs.bytes.write_number.Goals as goal

pub loop-byte-preserved : goal.loop-byte-preserved
loop-byte-preserved c =
    bytes_more (length c.args.bytes.now) c.loop-byte.byte-index c.loop-byte.rest c.loop-byte.bytes (omega arith) (omega arith)
    ∙ c.loop-byte.invariant

pub returns : goal.returns
returns c =
    sym (bytes_all (length c.args.bytes.now) c.loop-byte.byte-index c.loop-byte.rest c.loop-byte.bytes (omega arith) (omega arith))
    ∙ c.loop-byte.invariant
