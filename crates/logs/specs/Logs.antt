-- What a log is: a system, and behind it each call with the time and the check sum that it led to.
-- Assumes nothing: these are definitions.
use Rattle.std.specs.Prelude.{◌≡◌, ℕ, zero, suc, ◌+◌, ◌*◌, ◌/◌, ◌%◌, ◌^◌, ◌<◌, cond, ◌⊎◌, List, [], ◌∷◌, ◌++◌, length, drop, ℤ, ◌==◌, bit_xor}
use Rattle.std.specs.Int.{w64}
use mir.Val.{of_z}
use Rattle.std.specs.List.{AllByRecursion}
use Rattle.words.specs.Bytes.{bytes_of}
use Rattle.motion.specs.Checks.{turned_left}
use Rattle.motion.specs.Refusals.{Told, good, refused}
use Rattle.motion.specs.Systems.{WordsState}
use Rattle.calls.specs.Calls.{bytes_of_call}
use Rattle.calls.specs.Machine.{Rules, Machine, obey}
use Rattle.calls.specs.SystemBytes.{body_at, count_in, rules_in, machine_in, system_told}
use Rattle.calls.specs.declared.answer.Answer.{Answer}
use Rattle.calls.specs.declared.call.Call.{Call}
use Rattle.calls.specs.declared.call.Call.TheVariants.{Forward, Back, Mark, GoTo, Read}

-- word k of a state, in the order of memory: for each body and axis the position, and behind it the momentum
abbrev pub word_of : WordsState → ℕ → ℕ
word_of s k = cond (k % 2 == 0) (s.position (k / 6) (k % 6 / 2)).value (s.momentum (k / 6) (k % 6 / 2)).value

-- the exclusive-or of the first k words, each turned to the left by its index modulo 64
unfoldable pub sum_below : WordsState → ℕ → ℕ
sum_below s zero = 0
sum_below s (suc k) = bit_xor (sum_below s k) (turned_left (word_of s k) (k % 64))

-- the check sum of a state of n bodies
abbrev pub state_sum : ℕ → WordsState → ℕ
state_sum n s = sum_below s (6 * n)

-- the word of a time
abbrev pub time_word : ℤ → ℕ
time_word t = of_z w64 t % 2 ^ 64

-- what stands behind a call: the time and the check sum after it, eight bytes each
abbrev pub stamp : ℕ → Machine → List ℕ
stamp n m = bytes_of 8 (time_word m.time) ++ bytes_of 8 (state_sum n m.state)

-- a call in a log has operands that their bytes can hold
abbrev pub Writable : Call → Type 0
Writable (Forward steps) = steps < 2 ^ 32
Writable (Back steps) = steps < 2 ^ 32
Writable (Mark c) = c < 256
Writable (GoTo c) = c < 256
Writable (Read b a) = (b < 256) × (a < 256)

-- the last byte of a log may be a kind that there is not
pub data End : Type 0 where
  whole : End
  unknown : (kind : ℕ) → End

abbrev pub end_bytes : End → List ℕ
end_bytes whole = []
end_bytes (unknown kind) = kind ∷ []

-- there is no such kind of call
abbrev pub Ends : End → Type 0
Ends whole = Unit {0}
Ends (unknown kind) = (kind < 256) × ((kind ≡ 0) ⊎ (5 < kind))

module _ (rules : Rules) where
  -- behind an answer its stamp, and then the rest; a refused call stands last
  abbrev pub behind : Told Answer → Machine → (Machine → List ℕ) → List ℕ
  behind (good answer) after rest = stamp rules.count after ++ rest after
  behind (refused number place) after rest = []

  -- the bytes of calls from number k on in a log, up to one that is refused, from this machine
  unfoldable pub log_of : Machine → ℕ → List Call → End → List ℕ
  log_of m k [] end = end_bytes end
  log_of m k (call ∷ calls) end =
      bytes_of_call call ++ behind (obey rules m k call).answer (obey rules m k call).after (λ after. log_of after (k + 1) calls end)

-- The bytes are a log: a system that is taken, and then the log of some calls.
pub record Log (bytes : List ℕ) : Type 0 where
  pub system : system_told bytes ≡ good tt
  pub calls : List Call
  pub end : End
  pub writable : AllByRecursion Writable calls
  pub ends : Ends end
  pub rest : drop (body_at (count_in bytes)) bytes ≡ log_of (rules_in bytes) (machine_in bytes) 0 calls end

module _ (rules : Rules) where
  -- calls that are all answered, from number k on
  unfoldable pub Answered : Machine → ℕ → List Call → Type 0
  Answered m k [] = Unit {0}
  Answered m k (call ∷ calls) = ((answer : Answer) × ((obey rules m k call).answer ≡ good answer)) × Answered (obey rules m k call).after (k + 1) calls

  -- the machine after them
  unfoldable pub machine_after : Machine → ℕ → List Call → Machine
  machine_after m k [] = m
  machine_after m k (call ∷ calls) = machine_after (obey rules m k call).after (k + 1) calls

  -- their bytes, each with its stamp
  unfoldable pub stamped : Machine → ℕ → List Call → List ℕ
  stamped m k [] = []
  stamped m k (call ∷ calls) = bytes_of_call call ++ (stamp rules.count (obey rules m k call).after ++ stamped (obey rules m k call).after (k + 1) calls)

-- The time or the check sum of call j is the first thing in the bytes that is wrong: what stands before it is a log of answered
-- calls, the call is answered too, and the sixteen bytes behind it are not its stamp.
pub record FirstWrong (bytes : List ℕ) (j : ℕ) : Type 0 where
  pub system : system_told bytes ≡ good tt
  pub calls : List Call
  pub call : Call
  pub written : List ℕ
  pub more : List ℕ
  pub many : length calls ≡ j
  pub writable : AllByRecursion Writable (calls ++ (call ∷ []))
  pub answered : Answered (rules_in bytes) (machine_in bytes) 0 (calls ++ (call ∷ []))
  pub long : length written ≡ 16
  pub bytes_are : drop (body_at (count_in bytes)) bytes
      ≡ stamped (rules_in bytes) (machine_in bytes) 0 calls ++ (bytes_of_call call ++ (written ++ more))
  pub differs : written ≡ stamp (count_in bytes) (machine_after (rules_in bytes) (machine_in bytes) 0 (calls ++ (call ∷ []))) → ⊥

-- Byte i stands in the time or the check sum of call j of a log.
pub record InStamp (bytes : List ℕ) (j i : ℕ) : Type 0 where
  pub system : system_told bytes ≡ good tt
  pub calls : List Call
  pub call : Call
  pub more : List ℕ
  pub many : length calls ≡ j
  pub writable : AllByRecursion Writable (calls ++ (call ∷ []))
  pub answered : Answered (rules_in bytes) (machine_in bytes) 0 (calls ++ (call ∷ []))
  pub bytes_are : drop (body_at (count_in bytes)) bytes
      ≡ stamped (rules_in bytes) (machine_in bytes) 0 calls
      ++ (bytes_of_call call ++ (stamp (count_in bytes) (machine_after (rules_in bytes) (machine_in bytes) 0 (calls ++ (call ∷ []))) ++ more))
  pub place : ℕ
  pub within : place < 16
  pub there : i ≡ body_at (count_in bytes) + (length (stamped (rules_in bytes) (machine_in bytes) 0 calls) + (length (bytes_of_call call) + place))
