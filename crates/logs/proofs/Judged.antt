-- The checker's answer and what a log is: each says the other.
use Rattle.std.proofs.Common.{◌≡◌, ℕ, ◌<◌, ◌≤◌, List, length, get_or, Ok, Err, Result, sym, refl, ap, ◌∙◌, subst, zero-add, arith, MatchResult}
use Rattle.motion.specs.Refusals.{Told, good, refused, number_of, place_of}
use Rattle.motion.specs.declared.refusal.Refusal.{Refusal}
use Rattle.calls.specs.Machine.{provided}
use Rattle.calls.specs.Reports.{opening_told}
use Rattle.calls.specs.SystemBytes.{body_at, count_in, rules_in, machine_in, system_told, room_told}
use Rattle.calls.proofs.Validity.{taken_valid, both, never, BelowTen, below_opening}
use Rattle.logs.specs.Checking.{Acceptance, acceptance, checked, log_in}
use Rattle.logs.specs.Logs.{Log, FirstWrong}
use Rattle.logs.specs.declared.checking.Accepted.{Accepted}
use Rattle.logs.proofs.Decided.{Accepts, accepts, refuses}
use Rattle.logs.proofs.Explained.{Explained, explain}

module _ (bytes : List ℕ) (small : (j : ℕ) → get_or bytes j 0 < 256) where
  -- a system that is taken lies within the bytes
  system_within : system_told bytes ≡ good tt → body_at (count_in bytes) ≤ length bytes
  system_within e = (taken_valid bytes e).room

  explained : (told : Told Acceptance) → log_in bytes (good tt) ≡ told → Explained (rules_in bytes) bytes (machine_in bytes) 0 (body_at (count_in bytes)) told
  explained told e = subst (Explained (rules_in bytes) bytes (machine_in bytes) 0 (body_at (count_in bytes))) e
      (explain (rules_in bytes) bytes small (length bytes) 0 (body_at (count_in bytes)) (machine_in bytes) (omega arith))

  -- what is accepted is a log
  pub accepted_log : (acceptance : Acceptance) → system_told bytes ≡ good tt → log_in bytes (good tt) ≡ good acceptance → Log bytes
  unfolding Explained
  accepted_log acceptance system e =
      let logged = explained (good acceptance) e in
      record { system = system; calls = logged.calls; end = logged.end; writable = logged.writable; ends = logged.ends; rest = logged.rest }

  -- a time or check sum that is told to be wrong is the first that is
  pub told_first : (j : ℕ) → system_told bytes ≡ good tt → log_in bytes (good tt) ≡ refused 10 j → FirstWrong bytes j
  unfolding Explained
  told_first j system e =
      let wrong = explained (refused 10 j) e refl in
      record {
        system = system;
        calls = wrong.calls;
        call = wrong.call;
        written = wrong.written;
        more = wrong.more;
        many = sym (zero-add (length wrong.calls)) ∙ wrong.many;
        writable = wrong.writable;
        answered = wrong.answered;
        long = wrong.long;
        bytes_are = wrong.bytes_are;
        differs = wrong.differs;
      }

  -- a log is accepted
  pub log_accepted : Log bytes → (acceptance : Acceptance) × (log_in bytes (good tt) ≡ good acceptance)
  unfolding Accepts
  log_accepted log = accepts (rules_in bytes) bytes log.calls log.end 0 (body_at (count_in bytes)) (length bytes) (machine_in bytes) log.writable log.ends
      (system_within log.system) (omega arith) log.rest

  -- and the first that is wrong is told
  pub first_told : (j : ℕ) → FirstWrong bytes j → log_in bytes (good tt) ≡ refused 10 j
  first_told j wrong =
      refuses (rules_in bytes) bytes small wrong.calls wrong.call wrong.written wrong.more 0 (body_at (count_in bytes)) (length bytes) (machine_in bytes) wrong.writable
      wrong.answered wrong.long (system_within wrong.system) (omega arith) wrong.bytes_are wrong.differs
      ∙ ap (λ n. refused 10 n) (zero-add (length wrong.calls) ∙ wrong.many)

-- what the checker answers, by what is told
module _ (bytes : List ℕ) (small : (j : ℕ) → get_or bytes j 0 < 256) (state checkpoints work : ℕ) where
  taken : opening_told bytes state checkpoints work ≡ good tt → system_told bytes ≡ good tt
  taken e = (both (system_told bytes) (room_told (count_in bytes) state checkpoints work) tt e).0

  room_good : system_told bytes ≡ good tt → room_told (count_in bytes) state checkpoints work ≡ good tt → opening_told bytes state checkpoints work ≡ good tt
  room_good system room = (λ i. provided (system i) (room i))

  -- a good answer
  pub judged_good : (acceptance : Acceptance) → good acceptance ≡ log_in bytes (opening_told bytes state checkpoints work) → Log bytes
  judged_good acceptance e = by (opening_told bytes state checkpoints work) refl
    where
      by : (verdict : Told (Unit {0})) → opening_told bytes state checkpoints work ≡ verdict → Log bytes
      by (good tt) is = accepted_log bytes small acceptance (taken is) (sym (e ∙ ap (log_in bytes) is))
      by (refused number place) is = never (sym (e ∙ ap (log_in bytes) is))

  -- a wrong time or check sum
  pub judged_wrong : (number j : ℕ) → number ≡ 10 → refused number j ≡ log_in bytes (opening_told bytes state checkpoints work) → FirstWrong bytes j
  unfolding BelowTen
  judged_wrong number j ten e = by (opening_told bytes state checkpoints work) refl (below_opening bytes state checkpoints work)
    where
      by : (verdict : Told (Unit {0})) → opening_told bytes state checkpoints work ≡ verdict → BelowTen (opening_told bytes state checkpoints work) → FirstWrong bytes j
      by (good tt) is below = told_first bytes small j (taken is) (sym (e ∙ ap (log_in bytes) is) ∙ ap (λ n. refused n j) ten)
      by (refused other place) is below =
          let same : refused number j ≡ refused other place = e ∙ ap (log_in bytes) is in
          let equal : number ≡ other = cc in
          let small_number : other < 10 = subst BelowTen is below in
          absurd (omega arith)

  -- a log for which there is room
  pub log_judged : (told : Told Acceptance) → told ≡ log_in bytes (opening_told bytes state checkpoints work) → room_told (count_in bytes) state checkpoints work ≡ good tt →
      Log bytes → (acceptance : Acceptance) × (told ≡ good acceptance)
  log_judged told e room log =
      let yes = log_accepted bytes small log in
      (yes.0, e ∙ ap (log_in bytes) (room_good log.system room) ∙ yes.1)

  -- and one with a wrong time or check sum
  pub wrong_judged : (told : Told Acceptance) → told ≡ log_in bytes (opening_told bytes state checkpoints work) → room_told (count_in bytes) state checkpoints work ≡ good tt →
      (j : ℕ) → FirstWrong bytes j → told ≡ refused 10 j
  wrong_judged told e room j wrong = e ∙ ap (log_in bytes) (room_good wrong.system room) ∙ first_told bytes small j wrong

  -- all of it, of an answer
  pub record Judgement (r : Result Accepted Refusal) : Type 0 where
    pub right : MatchResult r (λ _. Log bytes) (λ refusal. number_of refusal ≡ 10 → FirstWrong bytes (place_of refusal))
    pub accepts : room_told (count_in bytes) state checkpoints work ≡ good tt → Log bytes → (told : Acceptance) × (checked r ≡ good told)
    pub refuses : room_told (count_in bytes) state checkpoints work ≡ good tt → (j : ℕ) → FirstWrong bytes j → checked r ≡ refused 10 j

  pub judge : (r : Result Accepted Refusal) → checked r ≡ log_in bytes (opening_told bytes state checkpoints work) → Judgement r
  judge (Ok accepted) e = record { right = judged_good (acceptance accepted) e; accepts = log_judged _ e; refuses = wrong_judged _ e }
  judge (Err refusal) e = record { right = λ ten. judged_wrong (number_of refusal) (place_of refusal) ten e; accepts = log_judged _ e; refuses = wrong_judged _ e }
