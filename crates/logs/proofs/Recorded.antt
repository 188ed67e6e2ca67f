-- What is written, one call at a time; and that what is written is the log of the calls that were made.
use Rattle.std.proofs.Common.{◌≡◌, ℕ, zero, suc, ◌+◌, ◌-◌, ◌<◌, ◌≤◌, cond, List, [], ◌∷◌, ◌++◌, length, get_or, sym, refl, ap, ◌∙◌, inl, inr, append-nil, arith, eq-eqb, ne_eqb, le-leb}
use borrow.Author.Tests.{lt-leb}
use Rattle.std.specs.List.{AllByRecursion}
use Rattle.motion.specs.Refusals.{Told, good, refused}
use Rattle.motion.specs.declared.system.System.{System}
use Rattle.calls.specs.Calls.{size_of, bytes_of_call, call_at}
use Rattle.calls.specs.Machine.{Rules, Machine, rules_of, obey}
use Rattle.calls.specs.declared.answer.Answer.{Answer}
use Rattle.calls.specs.declared.call.Call.{Call}
use Rattle.calls.proofs.Coded.{Decoded, decoded}
use Rattle.logs.specs.Logs.{stamp, behind, Writable, End, whole, unknown, Ends, log_of}
use Rattle.logs.specs.Writing.{call_written, written_from}
use Rattle.logs.proofs.Explained.{unknown_kind, writable_call}
use Rattle.std.proofs.lemmas.Bool.Decides.{leb_tells}

module _ (rules : Rules) (bytes : List ℕ) (k at : ℕ) (m : Machine) where
  -- behind the last byte nothing is written
  pub written_past : (most : ℕ) → length bytes ≤ at → written_from rules bytes most k at m ≡ []
  unfolding written_from
  written_past zero past = refl
  written_past (suc most) past =
      ap (λ b. cond b [] (call_written rules bytes k at m (call_at bytes k at) (λ after to. written_from rules bytes most (k + 1) to after))) (le-leb (length bytes) at past)

  pub written_call : at < length bytes → (most : ℕ) (told : Told Call) → call_at bytes k at ≡ told →
      written_from rules bytes (suc most) k at m ≡ call_written rules bytes k at m told (λ after to. written_from rules bytes most (k + 1) to after)
  unfolding written_from
  written_call there most told e =
      ap (λ b. cond b [] (call_written rules bytes k at m (call_at bytes k at) (λ after to. written_from rules bytes most (k + 1) to after))) (lt-leb (length bytes) at there)
      ∙ ap (λ t. call_written rules bytes k at m t (λ after to. written_from rules bytes most (k + 1) to after)) e

  module _ (there : at < length bytes) (call : Call) (e : call_at bytes k at ≡ good call) where
    -- a call that is refused stands alone
    pub written_refused : (most number place : ℕ) → (obey rules m k call).answer ≡ refused number place → written_from rules bytes (suc most) k at m ≡ bytes_of_call call
    written_refused most number place why =
        written_call there most (good call) e
        ∙ ap (λ t. bytes_of_call call ++ behind rules t (obey rules m k call).after (λ n. written_from rules bytes most (k + 1) (at + size_of call) n)) why
        ∙ append-nil (bytes_of_call call)

    -- one that is answered has its stamp behind it
    pub written_answered : (most to : ℕ) (answer : Answer) (after : Machine) → (obey rules m k call).answer ≡ good answer → after ≡ (obey rules m k call).after → to ≡ at + size_of call →
        written_from rules bytes (suc most) k at m ≡ bytes_of_call call ++ (stamp rules.count after ++ written_from rules bytes most (k + 1) to after)
    written_answered most to answer after said then size =
        written_call there most (good call) e
        ∙ ap (λ t. bytes_of_call call ++ behind rules t (obey rules m k call).after (λ n. written_from rules bytes most (k + 1) (at + size_of call) n)) said
        ∙ (λ i. bytes_of_call call ++ (stamp rules.count (sym then i) ++ written_from rules bytes most (k + 1) (sym size i) (sym then i)))

-- what is written from call k on, of a system by its other name
pub written_here : (bytes : List ℕ) (k at : ℕ) (m : Machine) (system other : System) → other ≡ system → k < length bytes →
    written_from (rules_of system) bytes (length bytes - k) k at m ≡ written_from (rules_of other) bytes (suc (length bytes - (k + 1))) k at m
written_here bytes k at m system other same h =
    let left : length bytes - k ≡ suc (length bytes - (k + 1)) = omega arith in
    λ i. written_from (rules_of (sym same i)) bytes (left i) k at m

module _ (rules : Rules) (bytes : List ℕ) (small : (j : ℕ) → get_or bytes j 0 < 256) where
  -- what is written is the log of some calls
  pub record Logs (most k at : ℕ) (m : Machine) : Type 0 where
    pub calls : List Call
    pub end : End
    pub writable : AllByRecursion Writable calls
    pub ends : Ends end
    pub is : written_from rules bytes most k at m ≡ log_of rules m k calls end

  logs_none : (most k at : ℕ) (m : Machine) → written_from rules bytes most k at m ≡ [] → Logs most k at m
  unfolding log_of
  logs_none most k at m e = record { calls = []; end = whole; writable = tt; ends = tt; is = e }

  logs_fault : (most k at number place : ℕ) (m : Machine) → at < length bytes → call_at bytes k at ≡ refused number place → Logs (suc most) k at m
  unfolding log_of Decoded
  logs_fault most k at number place m there e = elim (decoded bytes k at (refused number place) there e) [
    | inl four ↦ record {
      calls = [];
      end = unknown (get_or bytes at 0);
      writable = tt;
      ends = (small at, unknown_kind bytes at four.1);
      is = written_call rules bytes k at m there most (refused number place) e ∙ ap (λ b. cond b (get_or bytes at 0 ∷ []) []) (eq-eqb number 4 four.0);
    }
    | inr one ↦ logs_none (suc most) k at m
        (written_call rules bytes k at m there most (refused number place) e ∙ ap (λ b. cond b (get_or bytes at 0 ∷ []) []) (ne_eqb number 4 (λ four. omega arith)))
  ]

  logs_call : (most k at : ℕ) (m : Machine) (call : Call) → at < length bytes → call_at bytes k at ≡ good call →
      ((n : Machine) (to : ℕ) → Logs most (k + 1) to n) → (told : Told Answer) → (obey rules m k call).answer ≡ told → Logs (suc most) k at m
  unfolding log_of Decoded
  logs_call most k at m call there e on (refused number place) why = record {
    calls = call ∷ [];
    end = whole;
    writable = (writable_call rules bytes small at call (decoded bytes k at (good call) there e).0, tt);
    ends = tt;
    is = written_call rules bytes k at m there most (good call) e
        ∙ (λ i. bytes_of_call call ++ behind rules (why i) (obey rules m k call).after (λ n. written_from rules bytes most (k + 1) (at + size_of call) n))
        ∙ sym (λ i. bytes_of_call call ++ behind rules (why i) (obey rules m k call).after (λ n. log_of rules n (k + 1) [] whole));
  }
  logs_call most k at m call there e on (good answer) said =
      let after = (obey rules m k call).after in
      let more = on after (at + size_of call) in
      record {
        calls = call ∷ more.calls;
        end = more.end;
        writable = (writable_call rules bytes small at call (decoded bytes k at (good call) there e).0, more.writable);
        ends = more.ends;
        is = written_call rules bytes k at m there most (good call) e
            ∙ (λ i. bytes_of_call call ++ behind rules (said i) after (λ n. written_from rules bytes most (k + 1) (at + size_of call) n))
            ∙ (λ i. bytes_of_call call ++ (stamp rules.count after ++ more.is i))
            ∙ sym (λ i. bytes_of_call call ++ behind rules (said i) after (λ n. log_of rules n (k + 1) more.calls more.end));
      }

  pub logs : (most k at : ℕ) (m : Machine) → Logs most k at m
  unfolding written_from
  logs zero k at m = logs_none zero k at m refl
  logs (suc most) k at m = elim (leb_tells (length bytes) at) [
    | inl t ↦ logs_none (suc most) k at m (written_past rules bytes k at m (suc most) t.1)
    | inr t ↦ by t.1 (λ n to. logs most (k + 1) to n) (call_at bytes k at) refl
  ]
    where
      by : at < length bytes → ((n : Machine) (to : ℕ) → Logs most (k + 1) to n) → (told : Told Call) → call_at bytes k at ≡ told → Logs (suc most) k at m
      by there on (good call) e = logs_call most k at m call there e on (obey rules m k call).answer refl
      by there on (refused number place) e = logs_fault most k at number place m there e
