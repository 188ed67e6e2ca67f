-- Rows of turns: the steps back of a row, made forward after it, give what its steps forward give, and the rest follows from that.
use Rattle.std.proofs.Common.{◌≡◌, ℕ, zero, suc, ◌+◌, ◌<◌, List, [], ◌∷◌, ◌++◌, length, get_or, take, ℤ, pos, negsuc, ◌+ℤ◌, sym, refl, ap, ◌∙◌, add_comm, suc-add, zero-add, add-one, arith}
use lib.IntN.{ -ℤ-+ℤ_cancel}
use Rattle.std.proofs.lemmas.List.{take_more}
use Rattle.std.proofs.lemmas.Int.{ints}
use Rattle.motion.specs.declared.turn.Turn.{Turn}
use Rattle.motion.specs.declared.turn.Turn.TheVariants.{Forward, Back}
use Rattle.motion.specs.Travel.{again, turned, travel, forward_steps, back_steps, state_at, time_of}
use Rattle.motion.specs.Travel.{Undone, TimeDecides, Keeps, Carries}

module _ {S : Type 0} (f : S → S) where
  -- no steps change nothing
  pub again_none : (s : S) → again f 0 s ≡ s
  unfolding again
  again_none s = refl

  -- the last of many steps may be set apart
  pub again_suc : (k : ℕ) (s : S) → again f (suc k) s ≡ f (again f k s)
  unfolding again
  again_suc zero s = refl
  again_suc (suc k) s = again_suc k (f s)

  -- the same, as a loop counts
  pub again_one_more : (k : ℕ) (s : S) → again f (k + 1) s ≡ f (again f k s)
  again_one_more k s = rw add-one (again_suc k s)

  -- many steps may be made in two parts
  pub again_more : (j k : ℕ) (s : S) → again f (j + k) s ≡ again f k (again f j s)
  unfolding again
  again_more zero k s = rw zero-add
  again_more (suc j) k s = rw suc-add (again_more j k (f s))

  -- and the parts may change places
  pub again_swap : (j k : ℕ) (s : S) → again f j (again f k s) ≡ again f k (again f j s)
  again_swap j k s = sym (again_more k j s) ∙ rw add_comm (again_more j k s)

-- as many undoings after as many steps lead to where one was
pub again_undone : {S : Type 0} (f g : S → S) → ((s : S) → g (f s) ≡ s) → (k : ℕ) (s : S) → again g k (again f k s) ≡ s
unfolding again
again_undone f g undo zero s = refl
again_undone f g undo (suc k) s =
    ap (again g k) (ap g (again_suc f k s) ∙ undo (again f k s)) ∙ again_undone f g undo k s

module _ {S : Type 0} (step back : S → S) where
  -- a turn at the end of a row is made after the row
  travel_push : (turns : List Turn) (turn : Turn) (s : S) →
      travel step back (turns ++ (turn ∷ [])) s ≡ turned step back turn (travel step back turns s)
  unfolding travel
  travel_push [] turn s = refl
  travel_push (first ∷ turns) turn s = travel_push turns turn (turned step back first s)

  -- one turn more, as a loop over the turns makes it
  pub travel_more : (turns : List Turn) (i : ℕ) (d turn : Turn) (s : S) → i < length turns → get_or turns i d ≡ turn →
      travel step back (take (i + 1) turns) s ≡ turned step back turn (travel step back (take i turns) s)
  travel_more turns i d turn s h e =
      ap (λ ts. travel step back ts s) (take_more turns i d h ∙ ap (λ t. take i turns ++ (t ∷ [])) e)
      ∙ travel_push (take i turns) turn s

module _ {S : Type 0} {step back : S → S} (undone : Undone step back) where
  -- the steps back of a row, made forward after it, give what its steps forward give
  pub row_balance : (turns : List Turn) (s : S) →
      again step (back_steps turns) (travel step back turns s) ≡ again step (forward_steps turns) s
  unfolding travel forward_steps back_steps
  row_balance [] s = refl
  row_balance (Forward k ∷ turns) s = row_balance turns (again step k s) ∙ sym (again_more step k (forward_steps turns) s)
  row_balance (Back k ∷ turns) s =
      again_more step k (back_steps turns) _ ∙ again_swap step (back_steps turns) k _
      ∙ ap (again step k) (row_balance turns (again back k s)) ∙ again_swap step k (forward_steps turns) _
      ∙ ap (again step (forward_steps turns)) (again_undone back step undone.back_step k s)

  -- states that as many steps make one were one
  pub again_injective : (k : ℕ) {r s : S} → again step k r ≡ again step k s → r ≡ s
  again_injective k {r} {s} e =
      sym (again_undone step back undone.step_back k r) ∙ ap (again back k) e ∙ again_undone step back undone.step_back k s

  -- k steps after time t give what m steps after time 0 give, where t + k is m
  pub state_at_balance : (t : ℤ) (k m : ℕ) (s : S) → t +ℤ pos k ≡ pos m →
      again step k (state_at step back t s) ≡ again step m s
  state_at_balance (pos j) k m s e =
      sym (again_more step j k s) ∙ ap (λ n. again step n s) (omega (arith, ints))
  state_at_balance (negsuc j) k m s e =
      ap (λ n. again step n (again back (suc j) s)) (omega (arith, ints)) ∙ again_more step (suc j) m _
      ∙ ap (again step m) (again_undone back step undone.back_step (suc j) s)

  -- the state after a row is that of the row's time
  pub travel_by_time : (turns : List Turn) (s : S) → travel step back turns s ≡ state_at step back (time_of turns) s
  travel_by_time turns s = again_injective (back_steps turns)
      (row_balance turns s
      ∙ sym (state_at_balance (time_of turns) _ _ s (-ℤ-+ℤ_cancel (pos (forward_steps turns)) (pos (back_steps turns)))))

  -- from time 0 to a time, and from there on by a time, leads to the sum of the two
  pub state_at_more : (t u : ℤ) (s : S) → state_at step back u (state_at step back t s) ≡ state_at step back (t +ℤ u) s
  unfolding travel forward_steps back_steps
  state_at_more (pos j) (pos k) s =
      let e : time_of (Forward j ∷ Forward k ∷ []) ≡ pos j +ℤ pos k = omega (arith, ints) in
      travel_by_time (Forward j ∷ Forward k ∷ []) s ∙ ap (λ z. state_at step back z s) e
  state_at_more (pos j) (negsuc k) s =
      let e : time_of (Forward j ∷ Back (suc k) ∷ []) ≡ pos j +ℤ negsuc k = omega (arith, ints) in
      travel_by_time (Forward j ∷ Back (suc k) ∷ []) s ∙ ap (λ z. state_at step back z s) e
  state_at_more (negsuc j) (pos k) s =
      let e : time_of (Back (suc j) ∷ Forward k ∷ []) ≡ negsuc j +ℤ pos k = omega (arith, ints) in
      travel_by_time (Back (suc j) ∷ Forward k ∷ []) s ∙ ap (λ z. state_at step back z s) e
  state_at_more (negsuc j) (negsuc k) s =
      let e : time_of (Back (suc j) ∷ Back (suc k) ∷ []) ≡ negsuc j +ℤ negsuc k = omega (arith, ints) in
      travel_by_time (Back (suc j) ∷ Back (suc k) ∷ []) s ∙ ap (λ z. state_at step back z s) e

  -- the state belongs to the time, and not to the way
  pub time_decides : TimeDecides step back
  time_decides = record {
    there_and_back = again_undone step back undone.step_back;
    back_and_there = again_undone back step undone.back_step;
    parts = again_more step;
    by_time = travel_by_time;
    time_alone = λ turns others s e.
        travel_by_time turns s ∙ ap (λ t. state_at step back t s) (omega (arith, ints)) ∙ sym (travel_by_time others s);
  }

module _ {S V : Type 0} {value : S → V} where
  -- what a step keeps, many steps keep
  pub again_kept : (f : S → S) → ((s : S) → value (f s) ≡ value s) → (k : ℕ) (s : S) → value (again f k s) ≡ value s
  unfolding again
  again_kept f kept zero s = refl
  again_kept f kept (suc k) s = again_kept f kept k (f s) ∙ kept s

  module _ {step back : S → S} (undone : Undone step back) (kept : (s : S) → value (step s) ≡ value s) where
    -- what a step keeps, a step back keeps
    pub back_kept : (s : S) → value (back s) ≡ value s
    back_kept s = sym (kept (back s)) ∙ ap value (undone.back_step s)

    -- and every row
    pub travel_kept : (turns : List Turn) (s : S) → value (travel step back turns s) ≡ value s
    unfolding travel
    travel_kept [] s = refl
    travel_kept (Forward k ∷ turns) s = travel_kept turns (again step k s) ∙ again_kept step kept k s
    travel_kept (Back k ∷ turns) s = travel_kept turns (again back k s) ∙ again_kept back back_kept k s

    -- what every step keeps, every row keeps
    pub keeps : Keeps step back value
    keeps = record { by_step = kept; by_back = back_kept; by_row = travel_kept }

module _ {S R : Type 0} {change : S → R} where
  -- what a change carries from one step to another, it carries over many steps
  pub again_carried : (f : S → S) (g : R → R) → ((s : S) → change (f s) ≡ g (change s)) →
      (k : ℕ) (s : S) → change (again f k s) ≡ again g k (change s)
  unfolding again
  again_carried f g carried zero s = refl
  again_carried f g carried (suc k) s = again_carried f g carried k (f s) ∙ ap (again g k) (carried s)

  module _ {step back : S → S} {other_step other_back : R → R} (undone : Undone step back)
      (other_undone : Undone other_step other_back) (carried : (s : S) → change (step s) ≡ other_step (change s)) where
    -- what a change carries over a step, it carries over a step back
    pub back_carried : (s : S) → change (back s) ≡ other_back (change s)
    back_carried s = sym (other_undone.step_back (change (back s)))
        ∙ ap other_back (sym (carried (back s)) ∙ ap change (undone.back_step s))

    -- and over every row
    pub travel_carried : (turns : List Turn) (s : S) →
        change (travel step back turns s) ≡ travel other_step other_back turns (change s)
    unfolding travel
    travel_carried [] s = refl
    travel_carried (Forward k ∷ turns) s = travel_carried turns (again step k s)
        ∙ ap (travel other_step other_back turns) (again_carried step other_step carried k s)
    travel_carried (Back k ∷ turns) s = travel_carried turns (again back k s)
        ∙ ap (travel other_step other_back turns) (again_carried back other_back back_carried k s)

    -- and from every time to the same time
    pub state_at_carried : (t : ℤ) (s : S) → change (state_at step back t s) ≡ state_at other_step other_back t (change s)
    state_at_carried (pos k) s = again_carried step other_step carried k s
    state_at_carried (negsuc k) s = again_carried back other_back back_carried (suc k) s

    -- what a change carries from one step to another, it carries over every row
    pub carries : Carries step back other_step other_back change
    carries = record {
      over_step = carried;
      over_back = back_carried;
      over_row = travel_carried;
      at_all_times = state_at_carried;
    }
