-- A log that was written is a log: it begins with the system, and goes on with the log of the calls that were made.
use Rattle.std.proofs.Common.{◌≡◌, ℕ, ◌<◌, ◌≤◌, List, ◌++◌, length, get_or, take, drop, sym, ap, ◌∙◌, arith}
use Rattle.std.proofs.lemmas.List.{drop_at, get_or_append_left, get_or-take, length-append, length-take-le}
use Rattle.motion.specs.Refusals.{good}
use Rattle.calls.specs.SystemBytes.{body_at, count_in, rules_in, machine_in, system_told}
use Rattle.calls.proofs.SameSystem.{count_same, rules_same, machine_same, taken_same}
use Rattle.calls.proofs.Validity.{taken_valid}
use Rattle.logs.specs.Logs.{Log, log_of}
use Rattle.logs.specs.Writing.{written_from}
use Rattle.logs.proofs.Recorded.{logs}

module _ (bytes : List ℕ) (small : (j : ℕ) → get_or bytes j 0 < 256) (taken : system_told bytes ≡ good tt) (log : List ℕ)
    (is : log ≡ take (body_at (count_in bytes)) bytes ++ written_from (rules_in bytes) bytes (length bytes) 0 (body_at (count_in bytes)) (machine_in bytes)) where
  room : body_at (count_in bytes) ≤ length bytes
  room = (taken_valid bytes taken).room

  front : length (take (body_at (count_in bytes)) bytes) ≡ body_at (count_in bytes)
  front = length-take-le (body_at (count_in bytes)) bytes room

  same : (j : ℕ) → j < body_at (count_in bytes) → get_or log j 0 ≡ get_or bytes j 0
  same j h =
      let long = front in
      ap (λ l. get_or l j 0) is ∙ get_or_append_left (take (body_at (count_in bytes)) bytes) _ 0 j (omega arith) ∙ get_or-take (body_at (count_in bytes)) bytes j 0 h

  pub written_log : Log log
  written_log =
      let valid = taken_valid bytes taken in
      let made = logs (rules_in bytes) bytes small (length bytes) 0 (body_at (count_in bytes)) (machine_in bytes) in
      let long : body_at (count_in bytes) ≤ length log =
      (let a = ap length is in let b = length-append (take (body_at (count_in bytes)) bytes) (written_from (rules_in bytes) bytes (length bytes) 0 (body_at (count_in bytes)) (machine_in bytes)) in let c = front in omega arith) in
      record {
        system = taken_same bytes log valid same long;
        calls = made.calls;
        end = made.end;
        writable = made.writable;
        ends = made.ends;
        rest = ap (λ n. drop (body_at n) log) (count_same bytes log valid same) ∙ ap (drop (body_at (count_in bytes))) is
            ∙ drop_at (take (body_at (count_in bytes)) bytes) _ (body_at (count_in bytes)) front ∙ made.is
            ∙ (λ i. log_of (sym (rules_same bytes log valid same) i) (sym (machine_same bytes log valid same) i) 0 made.calls made.end);
      }
