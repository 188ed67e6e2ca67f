-- One byte of a stamp altered makes its call the first that is wrong: what stands before it is as it was.
use Rattle.std.proofs.Common.{◌≡◌, ℕ, suc, ◌+◌, ◌<◌, ◌≤◌, ◌≢◌, List, [], ◌∷◌, ◌++◌, length, get_or, drop, set, sym, refl, ap, ◌∙◌, subst, inl, inr, arith}
use Rattle.std.proofs.lemmas.List.{drop-set-add, set_past, set-append_left, set-append_right, get_or-set_same, get_or-set_other, get_or-drop, get_or_append_left, get_or-append_right, length-set}
use Rattle.std.proofs.lemmas.Bool.Decides.{eqb_tells, leb_tells}
use Rattle.motion.specs.Refusals.{good, refused}
use Rattle.calls.specs.Calls.{bytes_of_call}
use Rattle.calls.specs.SystemBytes.{body_at, count_in, rules_in, machine_in}
use Rattle.calls.proofs.SameSystem.{count_same, rules_same, machine_same, taken_same}
use Rattle.calls.proofs.Validity.{taken_valid}
use Rattle.logs.specs.Checking.{log_in}
use Rattle.logs.specs.Logs.{stamp, stamped, Answered, machine_after, InStamp}
use Rattle.logs.proofs.Decided.{stamp_long}
use Rattle.logs.proofs.Judged.{first_told}

-- a write behind a front
set_behind : (xs ys : List ℕ) (k v : ℕ) → set (xs ++ ys) (length xs + k) v ≡ xs ++ set ys k v
set_behind xs ys k v =
    set-append_right xs ys (length xs) (length xs + k) v refl (omega arith)
    ∙ ap (λ n. xs ++ set ys n v) (omega arith)

-- a read behind a front
get_behind : (xs ys : List ℕ) (k : ℕ) → get_or (xs ++ ys) (length xs + k) 0 ≡ get_or ys k 0
get_behind xs ys k = get_or-append_right xs ys (length xs) (length xs + k) 0 refl (omega arith) ∙ ap (λ n. get_or ys n 0) (omega arith)

module _ (bytes : List ℕ) (small : (k : ℕ) → get_or bytes k 0 < 256) (j i v : ℕ) (byte : v < 256) (other : v ≡ get_or bytes i 0 → ⊥) (in-stamp : InStamp bytes j i) where
  altered : List ℕ
  altered = set bytes i v

  front : ℕ
  front = body_at (count_in bytes)

  before : List ℕ
  before = stamped (rules_in bytes) (machine_in bytes) 0 in-stamp.calls

  right : List ℕ
  right = stamp (count_in bytes) (machine_after (rules_in bytes) (machine_in bytes) 0 (in-stamp.calls ++ (in-stamp.call ∷ [])))

  right_long : length right ≡ 16
  unfolding right
  right_long = stamp_long (count_in bytes) (machine_after (rules_in bytes) (machine_in bytes) 0 (in-stamp.calls ++ (in-stamp.call ∷ [])))

  offset : ℕ
  offset = length before + (length (bytes_of_call in-stamp.call) + in-stamp.place)

  at : i ≡ front + offset
  unfolding front offset before
  at = in-stamp.there

  -- what stands before it is as it was
  same : (k : ℕ) → k < front → get_or altered k 0 ≡ get_or bytes k 0
  unfolding altered front
  same k h = let where_to = at in let ne : k ≢ i = omega arith in rw get_or-set_other

  small_still : (k : ℕ) → get_or altered k 0 < 256
  unfolding altered
  small_still k = elim (eqb_tells k i) [
    | inl t ↦ elim (leb_tells (suc i) (length bytes)) [
      | inl u ↦ let inside : i < length bytes = u.1 in rw t.1 (rw get_or-set_same byte)
      | inr u ↦ rw (set_past bytes i v (omega arith)) (small k)
    ]
    | inr t ↦ let ne : k ≢ i = t.1 in rw get_or-set_other (small k)
  ]

  behind : drop front altered ≡ before ++ (bytes_of_call in-stamp.call ++ (set right in-stamp.place v ++ in-stamp.more))
  unfolding altered front offset before right
  behind =
      let long = right_long in
      ap (λ n. drop front (set bytes n v)) at ∙ drop-set-add front bytes offset v ∙ ap (λ l. set l offset v) in-stamp.bytes_are
      ∙ set_behind before (bytes_of_call in-stamp.call ++ (right ++ in-stamp.more)) (length (bytes_of_call in-stamp.call) + in-stamp.place) v
      ∙ ap (λ l. before ++ l) (set_behind (bytes_of_call in-stamp.call) (right ++ in-stamp.more) in-stamp.place v)
      ∙ ap (λ l. before ++ (bytes_of_call in-stamp.call ++ l)) (set-append_left right in-stamp.more in-stamp.place v (let w = in-stamp.within in omega arith))

  was : get_or right in-stamp.place 0 ≡ get_or bytes i 0
  unfolding front offset before right
  was =
      let long = right_long in
      sym (get_or_append_left right in-stamp.more 0 in-stamp.place (let w = in-stamp.within in omega arith))
      ∙ sym (get_behind (bytes_of_call in-stamp.call) (right ++ in-stamp.more) in-stamp.place)
      ∙ sym (get_behind before (bytes_of_call in-stamp.call ++ (right ++ in-stamp.more)) (length (bytes_of_call in-stamp.call) + in-stamp.place))
      ∙ ap (λ l. get_or l offset 0) (sym in-stamp.bytes_are) ∙ get_or-drop front bytes offset 0 ∙ ap (λ n. get_or bytes n 0) (sym at)

  differs : set right in-stamp.place v ≡ right → ⊥
  differs e =
      let long = right_long in
      let w = in-stamp.within in
      let here : in-stamp.place < length right = omega arith in
      other (sym (get_or-set_same right in-stamp.place v 0 here) ∙ ap (λ l. get_or l in-stamp.place 0) e ∙ was)

  pub altered_told : log_in (set bytes i v) (good tt) ≡ refused 10 j
  unfolding altered front before right
  altered_told =
      let valid = taken_valid bytes in-stamp.system in
      let rules = rules_same bytes altered valid same in
      let machine = machine_same bytes altered valid same in
      let counted = count_same bytes altered valid same in
      let room = valid.room in
      let long : front ≤ length altered = rw length-set room in
      first_told altered small_still j (record {
        system = taken_same bytes altered valid same long;
        calls = in-stamp.calls;
        call = in-stamp.call;
        written = set right in-stamp.place v;
        more = in-stamp.more;
        many = in-stamp.many;
        writable = in-stamp.writable;
        answered = subst (λ r. Answered r (machine_in altered) 0 (in-stamp.calls ++ (in-stamp.call ∷ []))) (sym rules)
            (subst (λ m. Answered (rules_in bytes) m 0 (in-stamp.calls ++ (in-stamp.call ∷ []))) (sym machine) in-stamp.answered);
        long = length-set right in-stamp.place v ∙ right_long;
        bytes_are = ap (λ n. drop (body_at n) altered) counted ∙ behind
            ∙ (λ k. stamped (sym rules k) (sym machine k) 0 in-stamp.calls ++ (bytes_of_call in-stamp.call ++ (set right in-stamp.place v ++ in-stamp.more)));
        differs = λ e. differs (e ∙ (λ k. stamp (counted k) (machine_after (rules k) (machine k) 0 (in-stamp.calls ++ (in-stamp.call ∷ [])))));
      })
