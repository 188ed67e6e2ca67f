-- A kind and four bytes are five.
use Rattle.std.proofs.Common.{sym, ap, inl, inr}
use Rattle.words.specs.Bytes.{bytes_of}
use Rattle.calls.specs.Calls.{size_of}
use Rattle.calls.proofs.call.Call.size.Goals as goal

pub returns-in-Forward : goal.returns-in-Forward
unfolding bytes_of
returns-in-Forward c = elim c.in-Forward.is [ inl e ↦ sym (ap size_of e.1) | inr e ↦ sym (ap size_of e.1) ]
