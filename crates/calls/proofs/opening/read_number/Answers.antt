-- Up to eight bytes are read as the definition reads them.
use Rattle.std.proofs.Common.{ℕ, ◌+◌, ◌^◌, ◌<◌, get_or, sym, ◌∙◌, subst, arith}
use Rattle.words.proofs.InBytes.{number_read, number_bound}
use Rattle.calls.proofs.opening.read_number.Goals as goal

pub returns : goal.returns
returns c =
    let bytes = c.args.bytes.now in
    let at = c.args.at in
    let size = c.args.size in
    let small : (j : ℕ) → get_or bytes j 0 < 256 = λ j. (c.type_inv.bytes j).fits in
    let value = c.number_in.ensures.value ∙ number_read size bytes at (at + size) (omega arith) c.requires.room c.requires.size small in
    record { value = value; bound = subst (λ n. n < 256 ^ size) (sym value) (number_bound size bytes at small) }
