-- The bytes written and those of what is left are those of the number.
use Rattle.std.proofs.Common.{◌≡◌, ◌-◌, ◌++◌, length, take}
use Rattle.words.specs.Bytes.{bytes_of}
use Rattle.words.proofs.bytes.write_number.Given as goal

abbrev pub invariant-loop-byte : goal.invariant-loop-byte
invariant-loop-byte l = take l.byte-index l.bytes ++ bytes_of (length l.initial.bytes - l.byte-index) l.rest ≡ bytes_of (length l.initial.bytes) l.number
