-- What is told of a log explains its bytes: an accepted one is the log of some calls, and a time or check sum that is told to
-- be wrong is the first that is.
use Rattle.std.proofs.Common.{◌≡◌, ℕ, zero, suc, ◌+◌, ◌<◌, ◌≤◌, Bool, true, false, cond, ◌⊎◌, List, [], ◌∷◌, ◌++◌, length, get_or, take, drop, Some, None, sym, refl, ap, ◌∙◌, subst, inl, inr, append_assoc, add-zero, arith, eq-eqb, ne_eqb}
use Rattle.std.proofs.lemmas.List.{drop_all, drop-drop, drop_more, take-append-drop, length-take-le, length-drop}
use Rattle.std.proofs.lemmas.Bool.Decides.{leb_tells}
use Rattle.std.specs.List.{AllByRecursion}
use Rattle.words.specs.Bytes.{number_at}
use Rattle.words.proofs.InBytes.{number_bound}
use Rattle.motion.specs.Refusals.{Told, good, refused}
use Rattle.calls.specs.Calls.{size_of, bytes_of_call, candidates, of_kind, call_at}
use Rattle.calls.specs.Machine.{Rules, Machine, obey}
use Rattle.calls.specs.declared.answer.Answer.{Answer}
use Rattle.calls.specs.declared.call.Call.{Call}
use Rattle.calls.specs.declared.call.Call.TheVariants.{Forward, Back, Mark, GoTo, Read}
use Rattle.calls.proofs.Coded.{Decoded, decoded, by_kind, read_back}
use Rattle.logs.specs.Checking.{Acceptance, ended_told, fault_told, answer_told, call_told, log_told}
use Rattle.logs.specs.Logs.{stamp, Writable, End, whole, unknown, Ends, behind, log_of, Answered, machine_after, stamped}
use Rattle.logs.proofs.Found.{told_over, told_call}
use Rattle.logs.proofs.Stamps.{same, stamp_passes, passes_stamp}

-- where no call is read, there is no such kind
pub unknown_kind : (bytes : List ℕ) (at : ℕ) → of_kind (get_or bytes at 0) (candidates bytes at) ≡ None → (get_or bytes at 0 ≡ 0) ⊎ (5 < get_or bytes at 0)
unknown_kind bytes at none = by_kind bytes at (λ o. o ≡ None → (get_or bytes at 0 ≡ 0) ⊎ (5 < get_or bytes at 0)) (λ _. never) (λ _. never) (λ _. never) (λ _. never) (λ _. never) (λ t _. t) none
  where
    never : {call : Call} → Some call ≡ None → (get_or bytes at 0 ≡ 0) ⊎ (5 < get_or bytes at 0)
    never e = let z : ◌≡◌ {A = ℕ} 0 1 = cc in absurd (omega arith)

module _ (rules : Rules) (bytes : List ℕ) where
  -- the bytes from `at` on are the log of some calls
  pub record Logged (m : Machine) (k at : ℕ) : Type 0 where
    pub calls : List Call
    pub end : End
    pub writable : AllByRecursion Writable calls
    pub ends : Ends end
    pub rest : drop at bytes ≡ log_of rules m k calls end

  -- the stamp of call j is the first thing in them that is wrong
  pub record Wrong (m : Machine) (k at j : ℕ) : Type 0 where
    pub calls : List Call
    pub call : Call
    pub written : List ℕ
    pub more : List ℕ
    pub many : k + length calls ≡ j
    pub writable : AllByRecursion Writable (calls ++ (call ∷ []))
    pub answered : Answered rules m k (calls ++ (call ∷ []))
    pub long : length written ≡ 16
    pub bytes_are : drop at bytes ≡ stamped rules m k calls ++ (bytes_of_call call ++ (written ++ more))
    pub differs : written ≡ stamp rules.count (machine_after rules m k (calls ++ (call ∷ []))) → ⊥

  unfoldable pub Explained : Machine → ℕ → ℕ → Told Acceptance → Type 0
  Explained m k at (good acceptance) = Logged m k at
  Explained m k at (refused number place) = number ≡ 10 → Wrong m k at place

  module _ (small : (j : ℕ) → get_or bytes j 0 < 256) where
    -- nothing is left
    logged_none : (m : Machine) (k at : ℕ) → length bytes ≤ at → Logged m k at
    unfolding log_of
    logged_none m k at past = record { calls = []; end = whole; writable = tt; ends = tt; rest = drop_all at bytes past }

    -- a kind that there is not is left
    logged_unknown : (m : Machine) (k at : ℕ) → at < length bytes → length bytes ≤ at + 1 → of_kind (get_or bytes at 0) (candidates bytes at) ≡ None → Logged m k at
    unfolding log_of
    logged_unknown m k at there past none = record {
      calls = [];
      end = unknown (get_or bytes at 0);
      writable = tt;
      ends = (small at, unknown_kind bytes at none);
      rest = drop_more bytes at 0 there ∙ ap (λ l. get_or bytes at 0 ∷ l) (drop_all (at + 1) bytes past);
    }

    -- a call that was decoded can be written
    pub writable_call : (at : ℕ) (call : Call) → of_kind (get_or bytes at 0) (candidates bytes at) ≡ Some call → Writable call
    writable_call at call e = by_kind bytes at (λ o. o ≡ Some call → Writable call)
        (λ _. by (Forward (number_at 4 bytes (at + 1))) (number_bound 4 bytes (at + 1) small))
        (λ _. by (Back (number_at 4 bytes (at + 1))) (number_bound 4 bytes (at + 1) small))
        (λ _. by (Mark (get_or bytes (at + 1) 0)) (small (at + 1)))
        (λ _. by (GoTo (get_or bytes (at + 1) 0)) (small (at + 1)))
        (λ _. by (Read (get_or bytes (at + 1) 0) (get_or bytes (at + 2) 0)) (small (at + 1), small (at + 2)))
        (λ _ none. let z : ◌≡◌ {A = ℕ} 0 1 = cc in absurd (omega arith)) e
      where
        by : (other : Call) → Writable other → Some other ≡ Some call → Writable call
        by other fits same = let is : other ≡ call = cc in subst Writable is fits

    -- call k is there, and its bytes end at `end`
    module _ (m : Machine) (k at : ℕ) (call : Call) (there : at < length bytes) (read : of_kind (get_or bytes at 0) (candidates bytes at) ≡ Some call)
        (room : at + size_of call ≤ length bytes) where
      end : ℕ
      end = at + size_of call

      after : Machine
      after = (obey rules m k call).after

      call_front : drop at bytes ≡ bytes_of_call call ++ drop end bytes
      unfolding end
      call_front = sym (take-append-drop (size_of call) (drop at bytes)) ∙ (λ i. read_back bytes at there small call read room i ++ drop-drop (size_of call) at bytes i)

      stamp_front : drop end bytes ≡ take 16 (drop end bytes) ++ drop (end + 16) bytes
      stamp_front = sym (take-append-drop 16 (drop end bytes)) ∙ ap (λ l. take 16 (drop end bytes) ++ l) (drop-drop 16 end bytes)

      -- it is refused, and the bytes end with it
      logged_refused : (number place : ℕ) → (obey rules m k call).answer ≡ refused number place → length bytes ≤ end → Logged m k at
      unfolding log_of
      logged_refused number place why past = record {
        calls = call ∷ [];
        end = whole;
        writable = (writable_call at call read, tt);
        ends = tt;
        rest = call_front ∙ ap (λ l. bytes_of_call call ++ l) (drop_all end bytes past)
            ∙ sym (ap (λ t. bytes_of_call call ++ behind rules t (obey rules m k call).after (λ n. log_of rules n (k + 1) [] whole)) why);
      }

      module _ (answer : Answer) (said : (obey rules m k call).answer ≡ good answer) where
        -- its stamp is wrong
        wrong_here : end + 16 ≤ length bytes → same rules.count bytes after end ≡ false → Wrong m k at k
        unfolding after end Answered machine_after stamped
        wrong_here enough differs = record {
          calls = [];
          call = call;
          written = take 16 (drop end bytes);
          more = drop (end + 16) bytes;
          many = add-zero k;
          writable = (writable_call at call read, tt);
          answered = ((answer, said), tt);
          long = let left = length-drop end bytes in length-take-le 16 (drop end bytes) (omega arith);
          bytes_are = call_front ∙ ap (λ l. bytes_of_call call ++ l) stamp_front;
          differs = λ e. let z : ◌≡◌ {A = ℕ} 0 1 = ap (λ b. cond b 1 0) (sym differs ∙ stamp_passes rules.count bytes after end e) in omega arith;
        }

        -- its stamp is right, and the rest is a log
        module _ (right : take 16 (drop end bytes) ≡ stamp rules.count after) where
          logged_on : Logged after (k + 1) (end + 16) → Logged m k at
          unfolding log_of after end
          logged_on on = record {
            calls = call ∷ on.calls;
            end = on.end;
            writable = (writable_call at call read, on.writable);
            ends = on.ends;
            rest = call_front ∙ ap (λ l. bytes_of_call call ++ l) (stamp_front ∙ (λ i. right i ++ on.rest i))
                ∙ sym (ap (λ t. bytes_of_call call ++ behind rules t (obey rules m k call).after (λ n. log_of rules n (k + 1) on.calls on.end)) said);
          }

          wrong_on : (j : ℕ) → Wrong after (k + 1) (end + 16) j → Wrong m k at j
          unfolding after end Answered machine_after stamped
          wrong_on j on = record {
            calls = call ∷ on.calls;
            call = on.call;
            written = on.written;
            more = on.more;
            many = let counted = on.many in omega arith;
            writable = (writable_call at call read, on.writable);
            answered = ((answer, said), on.answered);
            long = on.long;
            bytes_are = call_front
                ∙ ap (λ l. bytes_of_call call ++ l) (stamp_front ∙ (λ i. right i ++ on.bytes_are i)
                ∙ sym (append_assoc (stamp rules.count after) (stamped rules after (k + 1) on.calls) (bytes_of_call on.call ++ (on.written ++ on.more))))
                ∙ sym (append_assoc (bytes_of_call call) (stamp rules.count after ++ stamped rules after (k + 1) on.calls) (bytes_of_call on.call ++ (on.written ++ on.more)));
            differs = on.differs;
          }

          explained_on : (told : Told Acceptance) → Explained after (k + 1) (end + 16) told → Explained m k at told
          unfolding Explained
          explained_on (good acceptance) on = logged_on on
          explained_on (refused number place) on = λ ten. wrong_on place (on ten)

      -- what is told behind it
      explain_answer : (told : Told Answer) → (obey rules m k call).answer ≡ told → (rest : Told Acceptance) →
          Explained after (k + 1) (end + 16) rest → Explained m k at (answer_told rules bytes k end m told after rest)
      unfolding Explained
      explain_answer (refused number place) why rest on = elim (leb_tells (suc end) (length bytes)) [
        | inl t ↦ subst (Explained m k at) (sym (ap (λ b. cond b (refused 1 end) (good (record { calls = k; time = m.time; ending = refused number place }))) t.0))
            (λ ten. absurd (omega arith))
        | inr t ↦ subst (Explained m k at) (sym (ap (λ b. cond b (refused 1 end) (good (record { calls = k; time = m.time; ending = refused number place }))) t.0))
            (logged_refused number place why (omega arith))
      ]
      explain_answer (good answer) said rest on = elim (leb_tells (suc (length bytes)) (end + 16)) [
        | inl t ↦ subst (Explained m k at) (sym (ap (λ b. cond b (refused 1 (length bytes)) (cond (same rules.count bytes after end) rest (refused 10 k))) t.0))
            (λ ten. absurd (omega arith))
        | inr t ↦ subst (Explained m k at) (sym (ap (λ b. cond b (refused 1 (length bytes)) (cond (same rules.count bytes after end) rest (refused 10 k))) t.0))
            (compared (omega arith) (same rules.count bytes after end) refl)
      ]
        where
          compared : end + 16 ≤ length bytes → (b : Bool) → same rules.count bytes after end ≡ b → Explained m k at (cond (same rules.count bytes after end) rest (refused 10 k))
          compared enough true e = subst (λ b. Explained m k at (cond b rest (refused 10 k))) (sym e)
              (explained_on answer said (passes_stamp rules.count bytes after end small enough e) rest on)
          compared enough false e = subst (λ b. Explained m k at (cond b rest (refused 10 k))) (sym e) (λ ten. wrong_here answer said enough e)

    -- bytes that are no call
    explain_fault : (m : Machine) (k at number place : ℕ) → at < length bytes → ((number ≡ 4) × (of_kind (get_or bytes at 0) (candidates bytes at) ≡ None)) ⊎ (number ≡ 1) →
        Explained m k at (fault_told rules bytes k at m number place)
    unfolding Explained
    explain_fault m k at number place there (inl (four, none)) =
        subst (Explained m k at) (sym (ap (λ b. cond b (ended_told rules bytes k m (at + 1) number place) (refused number place)) (eq-eqb number 4 four)))
        (elim (leb_tells (suc (at + 1)) (length bytes)) [
          | inl t ↦ subst (Explained m k at) (sym (ap (λ b. cond b (refused 1 (at + 1)) (good (record { calls = k; time = m.time; ending = refused number place }))) t.0))
              (λ ten. absurd (omega arith))
          | inr t ↦ subst (Explained m k at) (sym (ap (λ b. cond b (refused 1 (at + 1)) (good (record { calls = k; time = m.time; ending = refused number place }))) t.0))
              (logged_unknown m k at there (omega arith) none)
        ])
    explain_fault m k at number place there (inr one) =
        subst (Explained m k at) (sym (ap (λ b. cond b (ended_told rules bytes k m (at + 1) number place) (refused number place)) (ne_eqb number 4 (λ e. omega arith))))
        (λ ten. absurd (omega arith))

    explain_call : (m : Machine) (k at most : ℕ) → at < length bytes → length bytes ≤ suc most + at →
        ((n : Machine) (to : ℕ) → length bytes ≤ most + to → Explained n (k + 1) to (log_told rules bytes most (k + 1) to n)) →
        (told : Told Call) → call_at bytes k at ≡ told → Explained m k at (call_told rules bytes k at m told (λ n to. log_told rules bytes most (k + 1) to n))
    unfolding Decoded after end
    explain_call m k at most there fuel on (refused number place) e = explain_fault m k at number place there (decoded bytes k at (refused number place) there e)
    explain_call m k at most there fuel on (good call) e =
        let known = decoded bytes k at (good call) there e in
        explain_answer m k at call there known.0 known.1 (obey rules m k call).answer refl _ (on (obey rules m k call).after (at + size_of call + 16) (omega arith))

    -- whatever is told explains the bytes
    pub explain : (most k at : ℕ) (m : Machine) → length bytes ≤ most + at → Explained m k at (log_told rules bytes most k at m)
    unfolding Explained
    explain zero k at m fuel = subst (Explained m k at) (sym (told_over rules bytes k at m zero (omega arith))) (logged_none m k at (omega arith))
    explain (suc most) k at m fuel = elim (leb_tells (length bytes) at) [
      | inl t ↦ subst (Explained m k at) (sym (told_over rules bytes k at m (suc most) t.1)) (logged_none m k at t.1)
      | inr t ↦ subst (Explained m k at) (sym (told_call rules bytes k at m t.1 most (call_at bytes k at) refl))
          (explain_call m k at most t.1 fuel (λ n to more. explain most (k + 1) to n more) (call_at bytes k at) refl)
    ]
