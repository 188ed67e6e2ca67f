-- Each half is read as a number.
use Rattle.std.proofs.Common.{◌∙◌, arith}
use Rattle.words.proofs.InBytes.{number_read}
use Rattle.logs.proofs.stamp.Stamp.read.Goals as goal

pub returns : goal.returns
returns c =
    let bytes = c.args.bytes.now in
    let long = c.told-bytes in
    record {
      time = c.number_in.ensures.value ∙ number_read 8 bytes 0 8 (omega arith) (omega arith) (omega arith) c.fits-bytes;
      sum = c.number_in-2.ensures.value ∙ number_read 8 bytes 8 16 (omega arith) (omega arith) (omega arith) c.fits-bytes;
    }
