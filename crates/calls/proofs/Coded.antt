-- Calls in bytes: what stands in front of a part is what stands at its place in the whole.
use Rattle.std.proofs.Common.{◌≡◌, ℕ, suc, ◌+◌, ◌^◌, ◌-◌, ◌<◌, ◌≤◌, cond, ◌⊎◌, List, [], ◌∷◌, ◌++◌, length, get_or, take, drop, length-drop, is_ok, IfOk, Some, None, Ok, Err, Option, Result, sym, refl, ap, ◌∙◌, subst, inl, inr, add-zero, add_assoc, mod-eq_of_lt, one-add, arith, le-leb}
use borrow.Author.Tests.{lt-leb}
use Rattle.std.specs.declared.alloc.AllocError.{AllocError}
use Rattle.std.proofs.lemmas.List.{get_or-drop, get_or-append-add, get_or_append_left, length-append, append_assoc, drop_more}
use Rattle.std.proofs.lemmas.Bool.Decides.{eqb_tells, leb_tells}
use Rattle.words.specs.Bytes.{number_at, bytes_of}
use Rattle.words.proofs.InBytes.{number_moved, bytes_of_number, number_of_bytes, length-bytes_of}
use Rattle.motion.specs.Refusals.{Told, good, refused}
use Rattle.calls.specs.Calls.{size_of, bytes_of_call, candidates, of_kind, whole, call_at}
use Rattle.calls.specs.declared.call.Call.{Call}
use Rattle.calls.specs.declared.call.Call.TheVariants.{Forward, Back, Mark, GoTo, Read}

-- what is told of a call, by the call that its bytes may stand for
told_there : (bytes : List ℕ) (k at : ℕ) → at < length bytes → call_at bytes k at ≡ whole bytes k at (of_kind (get_or bytes at 0) (candidates bytes at))
told_there bytes k at there =
    ap (λ b. cond b (refused 1 (length bytes)) (whole bytes k at (of_kind (get_or bytes at 0) (candidates bytes at)))) (lt-leb (length bytes) at there)

-- a call that is there as a whole
whole_call : (bytes : List ℕ) (k at : ℕ) → at < length bytes → (call : Call) → of_kind (get_or bytes at 0) (candidates bytes at) ≡ Some call →
    at + size_of call ≤ length bytes → call_at bytes k at ≡ good call
whole_call bytes k at there call e room =
    told_there bytes k at there ∙ ap (whole bytes k at) e
    ∙ ap (λ b. cond b (good call) (refused 1 (length bytes))) (le-leb (at + size_of call) (length bytes) room)

-- what holds of each kind, and where there is no such kind, holds of the call that is read
pub by_kind : (bytes : List ℕ) (at : ℕ) (P : Option Call → Type 0) →
    (get_or bytes at 0 ≡ 1 → P (Some (Forward (number_at 4 bytes (at + 1))))) → (get_or bytes at 0 ≡ 2 → P (Some (Back (number_at 4 bytes (at + 1))))) →
    (get_or bytes at 0 ≡ 3 → P (Some (Mark (get_or bytes (at + 1) 0)))) → (get_or bytes at 0 ≡ 4 → P (Some (GoTo (get_or bytes (at + 1) 0)))) →
    (get_or bytes at 0 ≡ 5 → P (Some (Read (get_or bytes (at + 1) 0) (get_or bytes (at + 2) 0)))) → ((get_or bytes at 0 ≡ 0) ⊎ (5 < get_or bytes at 0) → P None) →
    P (of_kind (get_or bytes at 0) (candidates bytes at))
by_kind bytes at P forward back mark go_to read none = elim (eqb_tells (get_or bytes at 0) 1) [
  | inl t ↦ found t.1 (forward t.1)
  | inr t1 ↦ elim (eqb_tells (get_or bytes at 0) 2) [
    | inl t ↦ found t.1 (back t.1)
    | inr t2 ↦ elim (eqb_tells (get_or bytes at 0) 3) [
      | inl t ↦ found t.1 (mark t.1)
      | inr t3 ↦ elim (eqb_tells (get_or bytes at 0) 4) [
        | inl t ↦ found t.1 (go_to t.1)
        | inr t4 ↦ elim (eqb_tells (get_or bytes at 0) 5) [
          | inl t ↦ found t.1 (read t.1)
          | inr t5 ↦
              let is : None ≡ of_kind (get_or bytes at 0) (candidates bytes at) = rw t1.0 (rw t2.0 (rw t3.0 (rw t4.0 (rw t5.0 refl)))) in
              subst P is (none (beyond t1.1 t2.1 t3.1 t4.1 t5.1))
        ]
      ]
    ]
  ]
]
  where
    found : {kind : ℕ} → get_or bytes at 0 ≡ kind → P (of_kind kind (candidates bytes at)) → P (of_kind (get_or bytes at 0) (candidates bytes at))
    found {kind} k p = subst (λ n. P (of_kind n (candidates bytes at))) (sym k) p

    beyond : (get_or bytes at 0 ≡ 1 → ⊥) → (get_or bytes at 0 ≡ 2 → ⊥) → (get_or bytes at 0 ≡ 3 → ⊥) → (get_or bytes at 0 ≡ 4 → ⊥) → (get_or bytes at 0 ≡ 5 → ⊥) →
        (get_or bytes at 0 ≡ 0) ⊎ (5 < get_or bytes at 0)
    beyond a b c d e = elim (eqb_tells (get_or bytes at 0) 0) [ inl t ↦ inl t.1 | inr t ↦ inr (omega arith) ]

-- what is known where this is told of a call
unfoldable pub Decoded : List ℕ → ℕ → Told Call → Type 0
Decoded bytes at (good call) = (of_kind (get_or bytes at 0) (candidates bytes at) ≡ Some call) × (at + size_of call ≤ length bytes)
Decoded bytes at (refused number place) = ((number ≡ 4) × (of_kind (get_or bytes at 0) (candidates bytes at) ≡ None)) ⊎ (number ≡ 1)

pub decoded : (bytes : List ℕ) (k at : ℕ) (told : Told Call) → at < length bytes → call_at bytes k at ≡ told → Decoded bytes at told
unfolding Decoded
decoded bytes k at told there e = go (of_kind (get_or bytes at 0) (candidates bytes at)) refl
  where
    told_of : whole bytes k at (of_kind (get_or bytes at 0) (candidates bytes at)) ≡ told
    told_of = sym (ap (λ b. cond b (refused 1 (length bytes)) (whole bytes k at (of_kind (get_or bytes at 0) (candidates bytes at)))) (lt-leb (length bytes) at there)) ∙ e

    go : (o : Option Call) → of_kind (get_or bytes at 0) (candidates bytes at) ≡ o → Decoded bytes at told
    go None is = subst (Decoded bytes at) (ap (whole bytes k at) (sym is) ∙ told_of) (inl (refl, is))
    go (Some call) is = elim (leb_tells (at + size_of call) (length bytes)) [
      | inl t ↦ subst (Decoded bytes at) (ap (λ b. cond b (good call) (refused 1 (length bytes))) (sym t.0) ∙ ap (whole bytes k at) (sym is) ∙ told_of) (is, t.1)
      | inr t ↦ subst (Decoded bytes at) (ap (λ b. cond b (good call) (refused 1 (length bytes))) (sym t.0) ∙ ap (whole bytes k at) (sym is) ∙ told_of) (inr refl)
    ]

-- a call that was read has the bytes from which it was read
module _ (bytes : List ℕ) (at : ℕ) (there : at < length bytes) (small : (j : ℕ) → get_or bytes j 0 < 256) where
  first_byte : (n : ℕ) → take (suc n) (drop at bytes) ≡ get_or bytes at 0 ∷ take n (drop (at + 1) bytes)
  first_byte n = ap (take (suc n)) (drop_more bytes at 0 there)

  steps_back : (kind : ℕ) → get_or bytes at 0 ≡ kind → at + 5 ≤ length bytes → take 5 (drop at bytes) ≡ kind ∷ bytes_of 4 (number_at 4 bytes (at + 1))
  steps_back kind e room = first_byte 4 ∙ (λ i. e i ∷ sym (bytes_of_number 4 bytes (at + 1) (omega arith) small) i)

  one_back : (kind : ℕ) → get_or bytes at 0 ≡ kind → at + 2 ≤ length bytes → take 2 (drop at bytes) ≡ kind ∷ get_or bytes (at + 1) 0 ∷ []
  one_back kind e room = first_byte 1 ∙ (λ i. e i ∷ ap (take 1) (drop_more bytes (at + 1) 0 (omega arith)) i)

  two_back : (kind : ℕ) → get_or bytes at 0 ≡ kind → at + 3 ≤ length bytes → take 3 (drop at bytes) ≡ kind ∷ get_or bytes (at + 1) 0 ∷ get_or bytes (at + 2) 0 ∷ []
  two_back kind e room =
      first_byte 2 ∙ (λ i. e i ∷ (ap (take 2) (drop_more bytes (at + 1) 0 (omega arith))
      ∙ ap (λ l. get_or bytes (at + 1) 0 ∷ take 1 l) (ap (λ k. drop k bytes) (add_assoc at 1 1) ∙ drop_more bytes (at + 2) 0 (omega arith))) i)

  -- whichever kind it is
  pub read_back : (call : Call) → of_kind (get_or bytes at 0) (candidates bytes at) ≡ Some call → at + size_of call ≤ length bytes →
      take (size_of call) (drop at bytes) ≡ bytes_of_call call
  unfolding bytes_of
  read_back call e room = by_kind bytes at (λ o. o ≡ Some call → take (size_of call) (drop at bytes) ≡ bytes_of_call call)
      (λ t. by (Forward (number_at 4 bytes (at + 1))) (steps_back 1 t))
      (λ t. by (Back (number_at 4 bytes (at + 1))) (steps_back 2 t))
      (λ t. by (Mark (get_or bytes (at + 1) 0)) (one_back 3 t))
      (λ t. by (GoTo (get_or bytes (at + 1) 0)) (one_back 4 t))
      (λ t. by (Read (get_or bytes (at + 1) 0) (get_or bytes (at + 2) 0)) (two_back 5 t))
      (λ t none. let z : ◌≡◌ {A = ℕ} 0 1 = cc in absurd (omega arith)) e
    where
      by : (other : Call) → (at + size_of other ≤ length bytes → take (size_of other) (drop at bytes) ≡ bytes_of_call other) → Some other ≡ Some call →
          take (size_of call) (drop at bytes) ≡ bytes_of_call call
      by other back same =
          let is : other ≡ call = cc in
          subst (λ c. at + size_of c ≤ length bytes → take (size_of c) (drop at bytes) ≡ bytes_of_call c) is back room

-- what is promised of a call that is read
pub record Taken (bytes : List ℕ) (k at : ℕ) (call : Call) : Type 0 where
  pub answer : good call ≡ call_at bytes k at
  pub within : at + size_of call ≤ length bytes
  pub undone : take (size_of call) (drop at bytes) ≡ bytes_of_call call

-- the call in front of the part from `at` on is the call there
module _ (bytes rest : List ℕ) (k at : ℕ) (is : rest ≡ drop at bytes) (some : 0 < length rest) where
  long : length rest ≡ length bytes - at
  long = ap length is ∙ length-drop at bytes

  byte : (j : ℕ) → get_or rest j 0 ≡ get_or bytes (at + j) 0
  byte j = ap (λ l. get_or l j 0) is ∙ get_or-drop at bytes j 0

  steps : number_at 4 rest 1 ≡ number_at 4 bytes (at + 1)
  steps = number_moved 4 rest bytes 1 (at + 1) (λ j h. byte (1 + j) ∙ ap (λ k. get_or bytes k 0) (omega arith))

  front_call : of_kind (get_or rest 0 0) (candidates rest 0) ≡ of_kind (get_or bytes at 0) (candidates bytes at)
  front_call = λ i. of_kind (kind i) (Forward (steps i) ∷ Back (steps i) ∷ Mark (byte 1 i) ∷ GoTo (byte 1 i) ∷ Read (byte 1 i) (byte 2 i) ∷ [])
    where
      kind : get_or rest 0 0 ≡ get_or bytes at 0
      kind = byte 0 ∙ ap (λ k. get_or bytes k 0) (add-zero at)

  told_in_front : call_at bytes k at ≡ whole bytes k at (of_kind (get_or rest 0 0) (candidates rest 0))
  told_in_front = let l = long in told_there bytes k at (omega arith) ∙ ap (whole bytes k at) (sym front_call)

  -- a call that is there as a whole
  pub taken : ((j : ℕ) → get_or bytes j 0 < 256) → (call : Call) → of_kind (get_or rest 0 0) (candidates rest 0) ≡ Some call → size_of call ≤ length rest →
      Taken bytes k at call
  taken small call e room =
      let l = long in
      let e_there = sym front_call ∙ e in
      let within : at + size_of call ≤ length bytes = omega arith in
      record {
        answer = sym (whole_call bytes k at (omega arith) call e_there within);
        within = within;
        undone = read_back bytes at (omega arith) small call e_there within;
      }

  -- a call that is cut off
  pub cut_off : (get_or rest 0 0 ≡ 1 → length rest < 5) → (get_or rest 0 0 ≡ 2 → length rest < 5) → (get_or rest 0 0 ≡ 3 → length rest < 2) →
      (get_or rest 0 0 ≡ 4 → length rest < 2) → (get_or rest 0 0 ≡ 5 → length rest < 3) → 1 ≤ get_or rest 0 0 → get_or rest 0 0 ≤ 5 →
      refused 1 (length bytes) ≡ call_at bytes k at
  unfolding bytes_of
  cut_off one two three four five least most = sym (told_in_front ∙ by_kind rest 0 (λ o. whole bytes k at o ≡ refused 1 (length bytes))
      (λ t. short (Forward (number_at 4 rest 1)) (one t)) (λ t. short (Back (number_at 4 rest 1)) (two t)) (λ t. short (Mark (get_or rest 1 0)) (three t))
      (λ t. short (GoTo (get_or rest 1 0)) (four t)) (λ t. short (Read (get_or rest 1 0) (get_or rest 2 0)) (five t))
      (λ t. absurd (elim t [ inl e ↦ omega arith | inr h ↦ omega arith ])))
    where
      short : (call : Call) → length rest < size_of call → whole bytes k at (Some call) ≡ refused 1 (length bytes)
      short call h =
          let l = long in
          ap (λ b. cond b (good call) (refused 1 (length bytes))) (lt-leb (at + size_of call) (length bytes) (omega arith))

-- a number of steps fits its four bytes
unfoldable pub FitsBytes : Call → Type 0
FitsBytes (Forward steps) = steps < 2 ^ 32
FitsBytes (Back steps) = steps < 2 ^ 32
FitsBytes (Mark c) = Unit {0}
FitsBytes (GoTo c) = Unit {0}
FitsBytes (Read body axis) = Unit {0}

-- a call's bytes, written behind xs, are read as the call
module _ (xs more : List ℕ) where
  module _ (ys : List ℕ) where
    byte_in : (j : ℕ) → j < length ys → get_or ((xs ++ ys) ++ more) (length xs + j) 0 ≡ get_or ys j 0
    byte_in j h = ap (λ l. get_or l (length xs + j) 0) (append_assoc xs ys more) ∙ get_or-append-add xs (ys ++ more) j 0 ∙ get_or_append_left ys more 0 j h

    long_enough : length xs + length ys ≤ length ((xs ++ ys) ++ more)
    long_enough = let a = length-append (xs ++ ys) more in let b = length-append xs ys in omega arith

  steps_in : (kind steps : ℕ) → steps < 2 ^ 32 → number_at 4 ((xs ++ (kind ∷ bytes_of 4 steps)) ++ more) (length xs + 1) ≡ steps
  steps_in kind steps small =
      number_of_bytes 4 steps ((xs ++ (kind ∷ bytes_of 4 steps)) ++ more) (length xs + 1)
      (λ j h. let long = length-bytes_of 4 steps in
      ap (λ k. get_or ((xs ++ (kind ∷ bytes_of 4 steps)) ++ more) k 0) (add_assoc (length xs) 1 j ∙ ap (λ k. length xs + k) (one-add j))
      ∙ byte_in (kind ∷ bytes_of 4 steps) (suc j) (omega arith))
      ∙ mod-eq_of_lt small

  -- the bytes with these
  abbrev pub joined : List ℕ → List ℕ
  joined ys = (xs ++ ys) ++ more

  kind_in : (kind : ℕ) (ys : List ℕ) → get_or (joined (kind ∷ ys)) (length xs) 0 ≡ kind
  kind_in kind ys = ap (λ k. get_or (joined (kind ∷ ys)) k 0) (sym (add-zero (length xs))) ∙ byte_in (kind ∷ ys) 0 (omega arith)

  found : (call : Call) → FitsBytes call →
      of_kind (get_or (joined (bytes_of_call call)) (length xs) 0) (candidates (joined (bytes_of_call call)) (length xs)) ≡ Some call
  unfolding FitsBytes
  found (Forward steps) fits =
      ap (λ n. of_kind n (candidates (joined (1 ∷ bytes_of 4 steps)) (length xs))) (kind_in 1 (bytes_of 4 steps)) ∙ ap (λ n. Some (Forward n)) (steps_in 1 steps fits)
  found (Back steps) fits =
      ap (λ n. of_kind n (candidates (joined (2 ∷ bytes_of 4 steps)) (length xs))) (kind_in 2 (bytes_of 4 steps)) ∙ ap (λ n. Some (Back n)) (steps_in 2 steps fits)
  found (Mark c) fits =
      ap (λ n. of_kind n (candidates (joined (3 ∷ c ∷ [])) (length xs))) (kind_in 3 (c ∷ [])) ∙ ap (λ n. Some (Mark n)) (byte_in (3 ∷ c ∷ []) 1 (omega arith))
  found (GoTo c) fits =
      ap (λ n. of_kind n (candidates (joined (4 ∷ c ∷ [])) (length xs))) (kind_in 4 (c ∷ [])) ∙ ap (λ n. Some (GoTo n)) (byte_in (4 ∷ c ∷ []) 1 (omega arith))
  found (Read body axis) fits =
      ap (λ n. of_kind n (candidates (joined (5 ∷ body ∷ axis ∷ [])) (length xs))) (kind_in 5 (body ∷ axis ∷ []))
      ∙ (λ i. Some (Read (byte_in (5 ∷ body ∷ axis ∷ []) 1 (omega arith) i) (byte_in (5 ∷ body ∷ axis ∷ []) 2 (omega arith) i)))

  pub written_call : (call : Call) → FitsBytes call → (k : ℕ) → call_at (joined (bytes_of_call call)) k (length xs) ≡ good call
  written_call call fits k =
      let room = long_enough (bytes_of_call call) in
      whole_call (joined (bytes_of_call call)) k (length xs) (omega arith) call (found call fits) room

-- where a slice with a call's bytes was appended, they are read as the call
pub encoded : (call other : Call) (result : Result (Unit {0}) AllocError) (before after slice : List ℕ) → call ≡ other → FitsBytes other → slice ≡ bytes_of_call other →
    after ≡ cond (is_ok result) (before ++ slice) before → IfOk result (λ _. (k : ℕ) (more : List ℕ) → call_at (after ++ more) k (length before) ≡ good call)
encoded call other (Ok x) before after slice same fits is e =
    let now = e ∙ ap (λ l. before ++ l) (is ∙ sym (ap bytes_of_call same)) in
    λ k more. ap (λ l. call_at (l ++ more) k (length before)) now
    ∙ subst (λ c. call_at ((before ++ bytes_of_call c) ++ more) k (length before) ≡ good c) (sym same) (written_call before more other fits k)
encoded call other (Err x) before after slice same fits is e = tt
