-- What is told of a log that is checked front to back.
-- Assumes nothing: these are definitions.
use Rattle.std.specs.Prelude.{ℕ, zero, suc, ◌+◌, cond, ◌&&◌, List, [], ◌++◌, length, ℤ, Some, None, Ok, Err, codes, decimal, Option, Result, ◌==◌, nat_le, nat_lt}
use Rattle.std.specs.Fmt.{signed_decimal}
use Rattle.words.specs.Bytes.{number_at}
use Rattle.motion.specs.Refusals.{Told, good, refused, number_of, place_of, refusal_line}
use Rattle.motion.specs.declared.refusal.Refusal.{Refusal}
use Rattle.calls.specs.Calls.{size_of, call_at}
use Rattle.calls.specs.Machine.{Rules, Machine, obey}
use Rattle.calls.specs.Reports.{end_told}
use Rattle.calls.specs.SystemBytes.{body_at, count_in, rules_in, machine_in}
use Rattle.calls.specs.declared.answer.Answer.{Answer}
use Rattle.calls.specs.declared.call.Call.{Call}
use Rattle.logs.specs.Logs.{time_word, state_sum}
use Rattle.logs.specs.declared.checking.Accepted.{Accepted}

-- what is told of a log that is accepted: its calls that were answered, the time after them, and how it ended
pub record Acceptance : Type 0 where
  pub calls : ℕ
  pub time : ℤ
  pub ending : Told (Unit {0})

abbrev pub acceptance : Accepted → Acceptance
acceptance accepted = record { calls = accepted.calls; time = accepted.time; ending = end_told accepted.refusal }

-- how a log ended, in a line of text
abbrev pub ending_text : Option Refusal → List ℕ
ending_text None = []
ending_text (Some refusal) = codes " ended by " ++ refusal_line refusal

-- a log that is accepted, in a line of text
abbrev pub accepted_text : Accepted → List ℕ
accepted_text accepted =
    codes "accepted " ++ (decimal accepted.calls ++ (codes " calls time " ++ (signed_decimal accepted.time ++ ending_text accepted.refusal)))

-- an answer of the checker
abbrev pub checked : Result Accepted Refusal → Told Acceptance
checked (Ok accepted) = good (acceptance accepted)
checked (Err refusal) = refused (number_of refusal) (place_of refusal)

module _ (rules : Rules) (bytes : List ℕ) where
  -- a log that ended well before call k
  abbrev pub over_told : ℕ → Machine → Told Acceptance
  over_told k m = good (record { calls = k; time = m.time; ending = good tt })

  -- a log in which call k was refused: bytes that go on from `end` are too many
  abbrev pub ended_told : ℕ → Machine → ℕ → ℕ → ℕ → Told Acceptance
  ended_told k m end number place =
      cond (nat_lt end (length bytes)) (refused 1 end) (good (record { calls = k; time = m.time; ending = refused number place }))

  -- bytes from `at` on that are no call: of a kind that there is not only the kind stands there
  abbrev pub fault_told : ℕ → ℕ → Machine → ℕ → ℕ → Told Acceptance
  fault_told k at m number place = cond (number == 4) (ended_told k m (at + 1) number place) (refused number place)

  -- behind call k, at `at`, time and check sum of the machine after it, and then the rest
  abbrev pub stamp_told : ℕ → ℕ → Machine → Told Acceptance → Told Acceptance
  stamp_told k at after rest =
      cond (nat_lt (length bytes) (at + 16)) (refused 1 (length bytes))
      (cond (number_at 8 bytes at == time_word after.time && number_at 8 bytes (at + 8) == state_sum rules.count after.state) rest (refused 10 k))

  -- call k was answered or refused, and its bytes end at `end`
  abbrev pub answer_told : ℕ → ℕ → Machine → Told Answer → Machine → Told Acceptance → Told Acceptance
  answer_told k end m (good answer) after rest = stamp_told k end after rest
  answer_told k end m (refused number place) after rest = ended_told k m end number place

  -- call k was decoded from `at` on, or is no call
  abbrev pub call_told : ℕ → ℕ → Machine → Told Call → (Machine → ℕ → Told Acceptance) → Told Acceptance
  call_told k at m (good call) rest =
      answer_told k (at + size_of call) m (obey rules m k call).answer (obey rules m k call).after (rest (obey rules m k call).after (at + size_of call + 16))
  call_told k at m (refused number place) rest = fault_told k at m number place

  -- what is told of at most `most` calls from number k on, whose bytes begin at `at`
  unfoldable pub log_told : ℕ → ℕ → ℕ → Machine → Told Acceptance
  log_told zero k at m = over_told k m
  log_told (suc most) k at m =
      cond (nat_le (length bytes) at) (over_told k m) (call_told k at m (call_at bytes k at) (λ after to. log_told most (k + 1) to after))

-- what is told of a log, by what is told of its system
abbrev pub log_in : List ℕ → Told (Unit {0}) → Told Acceptance
log_in bytes (good x) = log_told (rules_in bytes) bytes (length bytes) 0 (body_at (count_in bytes)) (machine_in bytes)
log_in bytes (refused number place) = refused number place
