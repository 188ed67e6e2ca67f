-- The calls of the operator in bytes: a kind, then numbers, low byte first.
-- Assumes nothing: these are definitions.
use Rattle.std.specs.Prelude.{ℕ, zero, suc, ◌+◌, cond, List, [], ◌∷◌, length, Some, None, Option, ◌==◌, nat_le, slice_index}
use Rattle.words.specs.Bytes.{number_at, bytes_of}
use Rattle.motion.specs.Refusals.{Told, good, refused}
use Rattle.calls.specs.declared.call.Call.{Call}
use Rattle.calls.specs.declared.call.Call.TheVariants.{Forward, Back, Mark, GoTo, Read}

-- the number of a call's kind
abbrev pub kind_of : Call → ℕ
kind_of (Forward steps) = 1
kind_of (Back steps) = 2
kind_of (Mark c) = 3
kind_of (GoTo c) = 4
kind_of (Read body axis) = 5

-- the bytes behind the kind: a number of steps has four, all others have one
abbrev pub operands : Call → List ℕ
operands (Forward steps) = bytes_of 4 steps
operands (Back steps) = bytes_of 4 steps
operands (Mark c) = c ∷ []
operands (GoTo c) = c ∷ []
operands (Read body axis) = body ∷ axis ∷ []

-- the bytes of a call, and how many they are
abbrev pub bytes_of_call : Call → List ℕ
bytes_of_call call = kind_of call ∷ operands call

abbrev pub size_of : Call → ℕ
size_of call = length (bytes_of_call call)

-- the five calls that the bytes behind `at` may stand for, one of each kind
abbrev pub candidates : List ℕ → ℕ → List Call
candidates bytes at =
    Forward (number_at 4 bytes (at + 1)) ∷ Back (number_at 4 bytes (at + 1)) ∷ Mark (slice_index bytes (at + 1)) ∷ GoTo (slice_index bytes (at + 1))
    ∷ Read (slice_index bytes (at + 1)) (slice_index bytes (at + 2)) ∷ []

-- the first of a kind
abbrev pub of_kind : ℕ → List Call → Option Call
of_kind kind [] = None
of_kind kind (call ∷ calls) = cond (kind == kind_of call) (Some call) (of_kind kind calls)

-- what is told of a call, number k, that stands at `at`: a kind that there is not, or the call, if all its bytes are there
abbrev pub whole : List ℕ → ℕ → ℕ → Option Call → Told Call
whole bytes k at None = refused 4 k
whole bytes k at (Some call) = cond (nat_le (at + size_of call) (length bytes)) (good call) (refused 1 (length bytes))

-- call number k, whose bytes begin at `at`
abbrev pub call_at : List ℕ → ℕ → ℕ → Told Call
call_at bytes k at =
    cond (nat_le (length bytes) at) (refused 1 (length bytes)) (whole bytes k at (of_kind (slice_index bytes at) (candidates bytes at)))

-- a row of calls: it is over, or comes to what is refused by number and place, or goes on with a call
pub data Row : Type 0 where
  over : Row
  fault : ℕ → ℕ → Row
  next : Call → Row → Row

-- a row that begins with what was told, and goes on behind a call
abbrev pub begin : Told Call → (Call → Row) → Row
begin (good call) rest = next call (rest call)
begin (refused number place) rest = fault number place

-- the row of at most `most` calls from number k on, whose bytes begin at `at` and go on to the end
unfoldable pub row_from : List ℕ → ℕ → ℕ → ℕ → Row
row_from bytes zero k at = over
row_from bytes (suc most) k at =
    cond (nat_le (length bytes) at) over (begin (call_at bytes k at) (λ call. row_from bytes most (k + 1) (at + size_of call)))

-- the row of calls from `at` on; there are no more calls than bytes
abbrev pub row_in : List ℕ → ℕ → Row
row_in bytes at = row_from bytes (length bytes) 0 at
