-- What the parts of a call do is what the machine does: the ways to move come down to one, by the difference of the times.
use Rattle.std.proofs.Common.{◌≡◌, ℕ, suc, ◌*◌, ◌^◌, ◌<◌, ◌≤◌, Bool, true, cond, List, length, drop, ℤ, ◌+ℤ◌, ◌-ℤ◌, Some, None, Ok, Err, Option, Result, sym, refl, ap, ◌∙◌, subst, inl, inr, arith, w64, SFits, lt-ltb, MatchOption, MatchResult}
use lib.Signed.{mag}
use Rattle.std.proofs.lemmas.Int.{ints}
use Rattle.std.proofs.lemmas.Bool.Decides.{leb_tells}
use Rattle.std.specs.Option.{SomeIff}
use Rattle.motion.specs.Refusals.{good, refused, told, number_of, place_of}
use Rattle.motion.specs.declared.refusal.Refusal.{Refusal}
use Rattle.calls.specs.Checkpoints.{kept_in, kept_words, machine_of, HoldsTime, checkpoints_length}
use Rattle.calls.specs.Machine.{rules_of, Machine, Checkpoint, Reply, in_range, refuse, keep, moved_by, moving, going, obey}
use Rattle.calls.specs.Outcomes.{Gone, Arrived, Obeyed, Untouched, checkpoints_after}
use Rattle.calls.specs.declared.answer.Answer.{Answer}
use Rattle.calls.specs.declared.answer.Answer.TheVariants.{Time}
use Rattle.calls.specs.declared.call.Call.{Call}
use Rattle.calls.specs.declared.call.Call.TheVariants.{Mark}
use Rattle.calls.specs.declared.player.Player.{Player}
use Rattle.calls.proofs.Kept.{kept_read, kept_behind}

-- what a call for which there is room is to leave
abbrev pub Promised : ℕ → Call → Result Answer Refusal → Player → Player → List ℕ → List ℕ → List ℕ → List ℕ → List ℕ → List ℕ → Type 0
Promised k call result player after state state_after checkpoints checkpoints_left work work_after =
    MatchResult result (λ _. Obeyed k call player after state state_after checkpoints checkpoints_left work work_after)
    (λ _. Untouched player after state state_after checkpoints checkpoints_left work work_after)

-- a time in range has its test
in_range_yes : (v : ℤ) → SFits w64 v → in_range v ≡ true
in_range_yes v fits = lt-ltb (mag v) (2 ^ 63) fits.sfits

module _ (k : ℕ) (call : Call) (player after : Player) (state state_after checkpoints work work_after : List ℕ) where
  abbrev pub machine : Machine
  machine = machine_of player state checkpoints

  -- a call that moves
  moved : (result : Result Answer Refusal) (to t : ℤ) → result ≡ Ok (Time to) → Gone to player after state state_after work work_after →
      to ≡ player.time +ℤ t → obey (rules_of player.system) machine k call ≡ moving (rules_of player.system) t machine →
      checkpoints_after player.system.count player.time state checkpoints call ≡ checkpoints →
      Promised k call result player after state state_after checkpoints checkpoints work work_after
  moved result to t e gone there is same =
      let by : to -ℤ player.time ≡ t = omega (arith, ints) in
      subst (λ r. Promised k call r player after state state_after checkpoints checkpoints work work_after) (sym e)
      (record {
        machine = gone.machine checkpoints ∙ ap (λ u. moved_by (rules_of player.system) u machine) by ∙ sym (ap (λ r. r.after) is);
        checkpoints_are = sym same;
        checkpoints_behind = refl;
        outside = gone.outside;
      })

  -- a call that is refused
  stayed : (result : Result Answer Refusal) (e : Refusal) → (result ≡ Err e) × (after ≡ player) × (state_after ≡ state) × (work_after ≡ work) →
      Promised k call result player after state state_after checkpoints checkpoints work work_after
  stayed result e stays =
      subst (λ r. Promised k call r player after state state_after checkpoints checkpoints work work_after) (sym stays.0)
      (record { player_same = stays.1; state_same = stays.2; checkpoints_same = refl; work_same = stays.3 })

  -- by steps, if the time stays in range
  pub by_steps : (result : Result Answer Refusal) (o : Option ℤ) (v t : ℤ) (e : Refusal) → v ≡ player.time +ℤ t → SomeIff o (SFits w64 v) v →
      Arrived o e result player after state state_after work work_after →
      obey (rules_of player.system) machine k call
      ≡ cond (in_range (player.time +ℤ t)) (moving (rules_of player.system) t machine) (refuse machine (number_of e) (place_of e)) →
      checkpoints_after player.system.count player.time state checkpoints call ≡ checkpoints →
      Promised k call result player after state state_after checkpoints checkpoints work work_after
  by_steps result None v t e way checked arrived is same = stayed result e arrived
  by_steps result (Some to) v t e way checked arrived is same =
      moved result to t arrived.0 arrived.1 (checked.1 ∙ way)
      (is ∙ ap (λ b. cond b (moving (rules_of player.system) t machine) (refuse machine (number_of e) (place_of e))) (sym (ap in_range way) ∙ in_range_yes v checked.0)) same

  to_kept : (m : Machine) (kept : Option Checkpoint) (to : ℤ) → HoldsTime to kept → going (rules_of player.system) m k kept ≡ moving (rules_of player.system) (to -ℤ m.time) m
  to_kept m None to holds = absurd holds
  to_kept m (Some checkpoint) to holds = ap (λ u. moving (rules_of player.system) (u -ℤ m.time) m) holds

  -- to what is kept, if anything is
  pub to_checkpoint : (result : Result Answer Refusal) (o : Option ℤ) (kept : Option Checkpoint) (e : Refusal) →
      MatchOption o (kept ≡ None) (λ t. HoldsTime t kept) → Arrived o e result player after state state_after work work_after →
      obey (rules_of player.system) machine k call ≡ going (rules_of player.system) machine k kept →
      checkpoints_after player.system.count player.time state checkpoints call ≡ checkpoints →
      Promised k call result player after state state_after checkpoints checkpoints work work_after
  to_checkpoint result None kept e none arrived is same = stayed result e arrived
  to_checkpoint result (Some to) kept e holds arrived is same =
      let way : to ≡ player.time +ℤ (to -ℤ player.time) = omega (arith, ints) in
      moved result to (to -ℤ player.time) arrived.0 arrived.1 way (is ∙ to_kept machine kept to holds) same

-- a mark keeps the time and the state
module _ (k c : ℕ) (player : Player) (state checkpoints checkpoints_left work : List ℕ) (fits : SFits w64 player.time)
    (front : 6 * player.system.count ≤ length state) (room : checkpoints_length player.system.count ≤ length checkpoints) where
  by_test : Bool → Reply
  by_test b = cond b (record { answer = good (Time player.time); after = keep c (machine_of player state checkpoints) }) (refuse (machine_of player state checkpoints) 5 k)

  now_kept : c < 16 → checkpoints_left ≡ kept_words player.system.count c player.time state checkpoints →
      machine_of player state checkpoints_left ≡ keep c (machine_of player state checkpoints)
  now_kept small left = λ i. record {
    time = player.time;
    state = (machine_of player state checkpoints).state;
    kept = (ap (kept_in player.system.count) left ∙ kept_read player.system.count c player.time state checkpoints small fits front room) i;
  }

  pub marked : (result : Result Answer Refusal) → told result ≡ (obey (rules_of player.system) (machine_of player state checkpoints) k (Mark c)).answer →
      MatchResult result (λ _. checkpoints_left ≡ kept_words player.system.count c player.time state checkpoints) (λ _. checkpoints_left ≡ checkpoints) →
      Promised k (Mark c) result player player state state checkpoints checkpoints_left work work
  unfolding by_test
  marked (Err fault) e left = record { player_same = refl; state_same = refl; checkpoints_same = left; work_same = refl }
  marked (Ok answer) e left = elim (leb_tells (suc c) 16) [
    | inl t ↦ record {
      machine = now_kept t.1 left ∙ sym (ap (λ b. (by_test b).after) t.0);
      checkpoints_are = left;
      checkpoints_behind = ap (drop (checkpoints_length player.system.count)) left ∙ kept_behind player.system.count c player.time state checkpoints t.1 front room;
      outside = record { system = refl; state_behind = refl; work_behind = refl };
    }
    | inr t ↦ let no : good answer ≡ refused 5 k = e ∙ ap (λ b. (by_test b).answer) t.0 in let z : ◌≡◌ {A = ℕ} 0 1 = cc in absurd (omega arith)
  ]
