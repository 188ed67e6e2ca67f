-- The bytes decide what is told: the log of some calls is accepted, and the first wrong stamp is told at its call.
use Rattle.std.proofs.Common.{◌≡◌, ℕ, zero, suc, ◌+◌, ◌-◌, ◌<◌, ◌≤◌, Bool, true, false, cond, ◌⊎◌, List, [], ◌∷◌, ◌++◌, length, get_or, take, drop, sym, refl, ap, ◌∙◌, inl, inr, append_assoc, add-zero, arith, le-ltb}
use borrow.Author.Tests.{lt-leb}
use Rattle.std.proofs.lemmas.List.{drop_at, drop-drop, get_or-drop, take_at, take-append-drop, length-append, length-drop, length-take-le}
use Rattle.std.specs.List.{AllByRecursion}
use Rattle.words.specs.Bytes.{bytes_of}
use Rattle.words.proofs.InBytes.{length-bytes_of}
use Rattle.motion.specs.Refusals.{Told, good, refused}
use Rattle.calls.specs.Calls.{size_of, bytes_of_call, candidates, of_kind, whole as whole_call, call_at}
use Rattle.calls.specs.Machine.{Rules, Machine, obey}
use Rattle.calls.specs.declared.answer.Answer.{Answer}
use Rattle.calls.specs.declared.call.Call.{Call}
use Rattle.calls.specs.declared.call.Call.TheVariants.{Forward, Back, Mark, GoTo, Read}
use Rattle.calls.proofs.Coded.{FitsBytes, by_kind, written_call}
use Rattle.logs.specs.Checking.{Acceptance, log_told}
use Rattle.logs.specs.Logs.{stamp, time_word, state_sum, Writable, End, whole, unknown, end_bytes, Ends, behind, log_of, Answered, machine_after, stamped}
use Rattle.logs.proofs.Found.{told_over, told_call, told_answered, told_refused, told_by_stamp}
use Rattle.logs.proofs.Stamps.{same, stamp_passes, passes_stamp}

fits : (call : Call) → Writable call → FitsBytes call
unfolding FitsBytes
fits (Forward steps) h = h
fits (Back steps) h = h
fits (Mark c) h = tt
fits (GoTo c) h = tt
fits (Read b a) h = tt

pub stamp_long : (n : ℕ) (m : Machine) → length (stamp n m) ≡ 16
stamp_long n m =
    length-append (bytes_of 8 (time_word m.time)) (bytes_of 8 (state_sum n m.state))
    ∙ (λ i. length-bytes_of 8 (time_word m.time) i + length-bytes_of 8 (state_sum n m.state) i)

module _ (rules : Rules) (bytes : List ℕ) (m : Machine) (k at : ℕ) (inside : at ≤ length bytes) where
  left : length (drop at bytes) ≡ length bytes - at
  left = length-drop at bytes

  -- a call in front of the rest
  module _ (call : Call) (can : Writable call) (rest : List ℕ) (e : drop at bytes ≡ bytes_of_call call ++ rest) where
    parts : bytes ≡ (take at bytes ++ bytes_of_call call) ++ rest
    parts = sym (take-append-drop at bytes) ∙ ap (λ l. take at bytes ++ l) e ∙ sym (append_assoc (take at bytes) (bytes_of_call call) rest)

    there_call : call_at bytes k at ≡ good call
    there_call = (λ i. call_at (parts i) k (sym (length-take-le at bytes inside) i)) ∙ written_call (take at bytes) rest call (fits call can) k

    sized : length bytes ≡ at + size_of call + length rest
    sized = let a = ap length e in let b = length-append (bytes_of_call call) rest in let c = left in omega arith

    after_call : drop (at + size_of call) bytes ≡ rest
    after_call = sym (drop-drop (size_of call) at bytes) ∙ ap (drop (size_of call)) e ∙ drop_at (bytes_of_call call) rest (size_of call) refl

    -- it is refused, and nothing is behind it
    told_last : (most number place : ℕ) → (obey rules m k call).answer ≡ refused number place → rest ≡ [] →
        log_told rules bytes (suc most) k at m ≡ good (record { calls = k; time = m.time; ending = refused number place })
    told_last most number place why none =
        let all = sized in
        let empty : length rest ≡ 0 = ap length none in
        told_refused rules bytes k at m (omega arith) call (at + size_of call) there_call refl most number place why
        ∙ ap (λ b. cond b (refused 1 (at + size_of call)) (good (record { calls = k; time = m.time; ending = refused number place }))) (le-ltb (at + size_of call) (length bytes) (omega arith))

    -- it is answered, and sixteen bytes are behind it
    module _ (answer : Answer) (said : (obey rules m k call).answer ≡ good answer) (written more : List ℕ) (long : length written ≡ 16) (is : rest ≡ written ++ more) where
      room : at + size_of call + 16 ≤ length bytes
      room = let all = sized in let a = ap length is in let b = length-append written more in omega arith

      sixteen : take 16 (drop (at + size_of call) bytes) ≡ written
      sixteen = ap (take 16) (after_call ∙ is) ∙ take_at written more 16 long

      behind_stamp : drop (at + size_of call + 16) bytes ≡ more
      behind_stamp = sym (drop-drop 16 (at + size_of call) bytes) ∙ ap (drop 16) (after_call ∙ is) ∙ drop_at written more 16 long

      told_stamp : (most : ℕ) (b : Bool) → same rules.count bytes (obey rules m k call).after (at + size_of call) ≡ b →
          log_told rules bytes (suc most) k at m ≡ cond b (log_told rules bytes most (k + 1) (at + size_of call + 16) (obey rules m k call).after) (refused 10 k)
      told_stamp most b test =
          let all = sized in
          told_answered rules bytes k at m (omega arith) call (at + size_of call) there_call refl most answer (obey rules m k call).after said refl
          ∙ told_by_stamp rules bytes k (at + size_of call) (obey rules m k call).after b room test _

      -- they are its stamp
      told_right : (most : ℕ) → written ≡ stamp rules.count (obey rules m k call).after →
          log_told rules bytes (suc most) k at m ≡ log_told rules bytes most (k + 1) (at + size_of call + 16) (obey rules m k call).after
      told_right most right = told_stamp most true (stamp_passes rules.count bytes (obey rules m k call).after (at + size_of call) (sixteen ∙ right))

      -- they are not
      told_wrong : (most : ℕ) → ((j : ℕ) → get_or bytes j 0 < 256) → (written ≡ stamp rules.count (obey rules m k call).after → ⊥) →
          log_told rules bytes (suc most) k at m ≡ refused 10 k
      told_wrong most small differs = by (same rules.count bytes (obey rules m k call).after (at + size_of call)) refl
        where
          by : (b : Bool) → same rules.count bytes (obey rules m k call).after (at + size_of call) ≡ b → log_told rules bytes (suc most) k at m ≡ refused 10 k
          by false test = told_stamp most false test
          by true test = absurd (differs (sym sixteen ∙ passes_stamp rules.count bytes (obey rules m k call).after (at + size_of call) small room test))

module _ (rules : Rules) (bytes : List ℕ) where
  -- the answer of a checker that accepts
  unfoldable pub Accepts : ℕ → ℕ → ℕ → Machine → Type 0
  Accepts most k at m = (acceptance : Acceptance) × (log_told rules bytes most k at m ≡ good acceptance)

  -- a kind that there is not ends a log
  unknown_there : (k at kind : ℕ) → at < length bytes → get_or bytes at 0 ≡ kind → (kind ≡ 0) ⊎ (5 < kind) → call_at bytes k at ≡ refused 4 k
  unknown_there k at kind there is which =
      ap (λ b. cond b (refused 1 (length bytes)) (whole_call bytes k at (of_kind (get_or bytes at 0) (candidates bytes at)))) (lt-leb (length bytes) at there)
      ∙ by_kind bytes at (λ o. whole_call bytes k at o ≡ refused 4 k) (λ e. never 1 e (omega arith)) (λ e. never 2 e (omega arith)) (λ e. never 3 e (omega arith)) (λ e. never 4 e (omega arith))
      (λ e. never 5 e (omega arith)) (λ _. refl)
    where
      never : {P : Type 0} (n : ℕ) → get_or bytes at 0 ≡ n → (1 ≤ n) × (n ≤ 5) → P
      never n e range = absurd (elim which [ inl z ↦ omega arith | inr b ↦ omega arith ])

  accepts_end : (end : End) (k at most : ℕ) (m : Machine) → Ends end → at ≤ length bytes → length bytes ≤ most + at → drop at bytes ≡ end_bytes end → Accepts most k at m
  unfolding Accepts
  accepts_end whole k at most m ends inside fuel e =
      let none : length bytes - at ≡ 0 = sym (length-drop at bytes) ∙ ap length e in
      (_, told_over rules bytes k at m most (omega arith))
  accepts_end (unknown kind) k at zero m ends inside fuel e =
      let one : length bytes - at ≡ 1 = sym (length-drop at bytes) ∙ ap length e in absurd (omega arith)
  accepts_end (unknown kind) k at (suc most) m ends inside fuel e =
      let one : length bytes - at ≡ 1 = sym (length-drop at bytes) ∙ ap length e in
      let there : at < length bytes = omega arith in
      let is : get_or bytes at 0 ≡ kind = ap (λ j. get_or bytes j 0) (sym (add-zero at)) ∙ sym (get_or-drop at bytes 0 0) ∙ ap (λ l. get_or l 0 0) e in (
        _,
        told_call rules bytes k at m there most (refused 4 k) (unknown_there k at kind there is ends.1)
            ∙ ap (λ b. cond b (refused 1 (at + 1)) (good (record { calls = k; time = m.time; ending = refused 4 k }))) (le-ltb (at + 1) (length bytes) (omega arith)),
      )

  -- a call that is answered, with its stamp, or one that is refused
  by_answer : (call : Call) (calls : List Call) (end : End) (k at most : ℕ) (m : Machine) → AllByRecursion Writable (call ∷ calls) → at ≤ length bytes →
      drop at bytes ≡ bytes_of_call call ++ behind rules (obey rules m k call).answer (obey rules m k call).after (λ after. log_of rules after (k + 1) calls end) →
      ((to : ℕ) → to ≤ length bytes → length bytes ≤ most + to → drop to bytes ≡ log_of rules (obey rules m k call).after (k + 1) calls end → Accepts most (k + 1) to (obey rules m k call).after) →
      length bytes ≤ suc most + at → (told : Told Answer) → (obey rules m k call).answer ≡ told → Accepts (suc most) k at m
  unfolding Accepts
  by_answer call calls end k at most m can inside e on fuel (refused number place) why = (
    _,
    told_last rules bytes m k at inside call can.0 [] (e ∙ ap (λ t. bytes_of_call call ++ behind rules t (obey rules m k call).after (λ after. log_of rules after (k + 1) calls end)) why)
        most number place why refl,
  )
  by_answer call calls end k at most m can inside e on fuel (good answer) said =
      let after = (obey rules m k call).after in
      let rest = stamp rules.count after ++ log_of rules after (k + 1) calls end in
      let is = e ∙ ap (λ t. bytes_of_call call ++ behind rules t after (λ n. log_of rules n (k + 1) calls end)) said in
      let long = stamp_long rules.count after in
      let more = on (at + size_of call + 16) (room rules bytes m k at inside call can.0 rest is answer said _ _ long refl) (omega arith)
      (behind_stamp rules bytes m k at inside call can.0 rest is answer said _ _ long refl) in
      (more.0, told_right rules bytes m k at inside call can.0 rest is answer said _ _ long refl most refl ∙ more.1)

  -- the log of some calls is accepted
  pub accepts : (calls : List Call) (end : End) (k at most : ℕ) (m : Machine) → AllByRecursion Writable calls → Ends end → at ≤ length bytes → length bytes ≤ most + at →
      drop at bytes ≡ log_of rules m k calls end → Accepts most k at m
  unfolding log_of
  accepts [] end k at most m can ends inside fuel e = accepts_end end k at most m ends inside fuel e
  accepts (call ∷ calls) end k at zero m can ends inside fuel e =
      let some = length-append (bytes_of_call call) (behind rules (obey rules m k call).answer (obey rules m k call).after (λ after. log_of rules after (k + 1) calls end)) in
      let left = sym (length-drop at bytes) ∙ ap length e in absurd (omega arith)
  accepts (call ∷ calls) end k at (suc most) m can ends inside fuel e =
      by_answer call calls end k at most m can inside e (λ to h g f. accepts calls end (k + 1) to most (obey rules m k call).after can.1 ends h g f) fuel (obey rules m k call).answer refl

  -- the first wrong stamp is told at its call
  pub refuses : ((j : ℕ) → get_or bytes j 0 < 256) → (calls : List Call) (call : Call) (written more : List ℕ) (k at most : ℕ) (m : Machine) → AllByRecursion Writable (calls ++ (call ∷ [])) →
      Answered rules m k (calls ++ (call ∷ [])) → length written ≡ 16 → at ≤ length bytes → length bytes ≤ most + at →
      drop at bytes ≡ stamped rules m k calls ++ (bytes_of_call call ++ (written ++ more)) →
      (written ≡ stamp rules.count (machine_after rules m k (calls ++ (call ∷ []))) → ⊥) → log_told rules bytes most k at m ≡ refused 10 (k + length calls)
  unfolding stamped Answered machine_after
  refuses small [] call written more k at zero m can answered long inside fuel e differs =
      let some = length-append (bytes_of_call call) (written ++ more) in let left = sym (length-drop at bytes) ∙ ap length e in absurd (omega arith)
  refuses small [] call written more k at (suc most) m can answered long inside fuel e differs =
      told_wrong rules bytes m k at inside call can.0 (written ++ more) e answered.0.0 answered.0.1 written more long refl most small differs
      ∙ ap (λ j. refused 10 j) (sym (add-zero k))
  refuses small (c ∷ calls) call written more k at zero m can answered long inside fuel e differs =
      let after = (obey rules m k c).after in
      let some = length-append (bytes_of_call c ++ (stamp rules.count after ++ stamped rules after (k + 1) calls)) (bytes_of_call call ++ (written ++ more)) in
      let more_some = length-append (bytes_of_call c) (stamp rules.count after ++ stamped rules after (k + 1) calls) in
      let left = sym (length-drop at bytes) ∙ ap length e in absurd (omega arith)
  refuses small (c ∷ calls) call written more k at (suc most) m can answered long inside fuel e differs =
      let after = (obey rules m k c).after in
      let tail = stamped rules after (k + 1) calls ++ (bytes_of_call call ++ (written ++ more)) in
      let is = e ∙ append_assoc (bytes_of_call c) (stamp rules.count after ++ stamped rules after (k + 1) calls) (bytes_of_call call ++ (written ++ more))
      ∙ ap (λ l. bytes_of_call c ++ l) (append_assoc (stamp rules.count after) (stamped rules after (k + 1) calls) (bytes_of_call call ++ (written ++ more))) in
      let rest = stamp rules.count after ++ tail in
      let sixteen_long = stamp_long rules.count after in
      told_right rules bytes m k at inside c can.0 rest is answered.0.0 answered.0.1 _ _ sixteen_long refl most refl
      ∙ refuses small calls call written more (k + 1) (at + size_of c + 16) most after can.1 answered.1 long
      (room rules bytes m k at inside c can.0 rest is answered.0.0 answered.0.1 _ _ sixteen_long refl) (omega arith)
      (behind_stamp rules bytes m k at inside c can.0 rest is answered.0.0 answered.0.1 _ _ sixteen_long refl) differs
      ∙ ap (λ j. refused 10 j) (omega arith)
