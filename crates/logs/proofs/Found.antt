-- One call of a log: what the inner functions find is what is told of the log from there on.
use Rattle.std.proofs.Common.{◌≡◌, ℕ, zero, suc, ◌+◌, ◌-◌, ◌<◌, ◌≤◌, Bool, false, cond, eqb, List, length, Ok, Err, Result, ControlFlow, Continue, Break, sym, refl, ap, ◌∙◌, arith, le-leb, le-ltb}
use borrow.Author.Tests.{lt-leb}
use Rattle.motion.specs.Refusals.{Told, good, refused, number_of, place_of}
use Rattle.motion.specs.declared.refusal.Refusal.{Refusal}
use Rattle.motion.specs.declared.refusal.Refusal.TheVariants.{Kind}
use Rattle.motion.specs.declared.system.System.{System}
use Rattle.calls.specs.Calls.{size_of, call_at}
use Rattle.calls.specs.Checkpoints.{machine_of}
use Rattle.calls.specs.Machine.{Rules, Machine, rules_of, obey}
use Rattle.calls.specs.declared.answer.Answer.{Answer}
use Rattle.calls.specs.declared.call.Call.{Call}
use Rattle.calls.specs.declared.player.Player.{Player}
use Rattle.logs.specs.Checking.{Acceptance, over_told, ended_told, fault_told, stamp_told, answer_told, call_told, log_told}
use Rattle.logs.proofs.Stamps.{same}
use Rattle.logs.specs.Checks.{ends_in, EndsAs, Compared, Found}

module _ (rules : Rules) (bytes : List ℕ) (k at : ℕ) (m : Machine) where
  -- behind the last byte a log is over
  pub told_over : (most : ℕ) → length bytes ≤ at → log_told rules bytes most k at m ≡ over_told rules bytes k m
  unfolding log_told
  told_over zero past = refl
  told_over (suc most) past =
      ap (λ b. cond b (over_told rules bytes k m) (call_told rules bytes k at m (call_at bytes k at) (λ after to. log_told rules bytes most (k + 1) to after))) (le-leb (length bytes) at past)

  -- before it the call there decides
  pub told_call : at < length bytes → (most : ℕ) (told : Told Call) → call_at bytes k at ≡ told →
      log_told rules bytes (suc most) k at m ≡ call_told rules bytes k at m told (λ after to. log_told rules bytes most (k + 1) to after)
  unfolding log_told
  told_call there most told e =
      ap (λ b. cond b (over_told rules bytes k m) (call_told rules bytes k at m (call_at bytes k at) (λ after to. log_told rules bytes most (k + 1) to after))) (lt-leb (length bytes) at there)
      ∙ ap (λ t. call_told rules bytes k at m t (λ after to. log_told rules bytes most (k + 1) to after)) e

  module _ (there : at < length bytes) (call : Call) (end : ℕ) (e : call_at bytes k at ≡ good call) (size : end ≡ at + size_of call) where
    -- a call that is answered
    pub told_answered : (most : ℕ) (answer : Answer) (after : Machine) → (obey rules m k call).answer ≡ good answer → after ≡ (obey rules m k call).after →
        log_told rules bytes (suc most) k at m ≡ stamp_told rules bytes k end after (log_told rules bytes most (k + 1) (end + 16) after)
    told_answered most answer after said then =
        told_call there most (good call) e
        ∙ ap (λ t. answer_told rules bytes k (at + size_of call) m t (obey rules m k call).after (log_told rules bytes most (k + 1) (at + size_of call + 16) (obey rules m k call).after)) said
        ∙ (λ i. stamp_told rules bytes k (sym size i) (sym then i) (log_told rules bytes most (k + 1) (sym size i + 16) (sym then i)))

    -- a call that is refused
    pub told_refused : (most number place : ℕ) → (obey rules m k call).answer ≡ refused number place →
        log_told rules bytes (suc most) k at m ≡ ended_told rules bytes k m end number place
    told_refused most number place why =
        told_call there most (good call) e
        ∙ ap (λ t. answer_told rules bytes k (at + size_of call) m t (obey rules m k call).after (log_told rules bytes most (k + 1) (at + size_of call + 16) (obey rules m k call).after)) why
        ∙ ap (λ n. ended_told rules bytes k m n number place) (sym size)

-- a refusal of another kind than `Kind` has another number
other_number : (refusal : Refusal) → ((call : ℕ) → refusal ≡ Kind call → ⊥) → eqb (number_of refusal) 4 ≡ false
other_number (Kind call) other = absurd (other call refl)
other_number refusal other = refl

-- what is told of bytes that are no call, by whether they are of a kind that there is not
module _ (rules : Rules) (bytes : List ℕ) (k at : ℕ) (m : Machine) (refusal : Refusal) where
  pub fault_of_kind : (call : ℕ) → refusal ≡ Kind call →
      fault_told rules bytes k at m (number_of refusal) (place_of refusal) ≡ ended_told rules bytes k m (at + 1) (number_of refusal) (place_of refusal)
  fault_of_kind call e = ap (λ b. cond b (ended_told rules bytes k m (at + 1) (number_of refusal) (place_of refusal)) (refused (number_of refusal) (place_of refusal)))
      (ap (λ r. eqb (number_of r) 4) e)

  pub fault_of_another : ((call : ℕ) → refusal ≡ Kind call → ⊥) →
      fault_told rules bytes k at m (number_of refusal) (place_of refusal) ≡ refused (number_of refusal) (place_of refusal)
  fault_of_another other = ap (λ b. cond b (ended_told rules bytes k m (at + 1) (number_of refusal) (place_of refusal)) (refused (number_of refusal) (place_of refusal)))
      (other_number refusal other)

-- what is told of sixteen bytes that are there, by whether they are the stamp
pub told_by_stamp : (rules : Rules) (bytes : List ℕ) (k at : ℕ) (m : Machine) (b : Bool) → at + 16 ≤ length bytes → same rules.count bytes m at ≡ b → (rest : Told Acceptance) →
    stamp_told rules bytes k at m rest ≡ cond b rest (refused 10 k)
told_by_stamp rules bytes k at m b enough test rest =
    ap (λ t. cond t (refused 1 (length bytes)) (cond (same rules.count bytes m at) rest (refused 10 k))) (le-ltb (length bytes) (at + 16) enough)
    ∙ ap (λ t. cond t rest (refused 10 k)) test

-- a log that ends, or has a fault, where nothing was changed
pub found_ended : (bytes : List ℕ) (k at : ℕ) (player after : Player) (state state_after checkpoints checkpoints_after : List ℕ) (refusal : Refusal) (told : Told Acceptance) (r : Result (ControlFlow Refusal ℕ) Refusal) →
    EndsAs told k (machine_of player state checkpoints) refusal r →
    ((most : ℕ) → log_told (rules_of player.system) bytes (suc most) k at (machine_of player state checkpoints) ≡ told) → after ≡ player →
    Found bytes k at player after state state_after checkpoints checkpoints_after r
found_ended bytes k at player after state state_after checkpoints checkpoints_after refusal told (Err fault) ends is same = λ most. is most ∙ ends
found_ended bytes k at player after state state_after checkpoints checkpoints_after refusal told (Ok (Continue to)) ends is same =
    let e : Continue to ≡ Break refusal = ends.0 in let z : ◌≡◌ {A = ℕ} 0 1 = cc in absurd (omega arith)
found_ended bytes k at player after state state_after checkpoints checkpoints_after refusal told (Ok (Break other)) ends is same =
    let e : Break other ≡ Break refusal = ends.0 in
    let f : refusal ≡ other = cc in
    (λ most. is most ∙ ends.1 ∙ ap (λ x. good (ends_in k (machine_of player state checkpoints) x)) f, same)

-- a log that goes on behind a stamp, or has a fault in it
pub found_stamp : (bytes : List ℕ) (k at end : ℕ) (player after : Player) (state state_after checkpoints checkpoints_after : List ℕ) (r : Result (ControlFlow Refusal ℕ) Refusal) → at < end → after.system ≡ player.system →
    Compared (rules_of player.system) bytes k end (machine_of after state_after checkpoints_after) r →
    ((most : ℕ) → log_told (rules_of player.system) bytes (suc most) k at (machine_of player state checkpoints)
    ≡ stamp_told (rules_of player.system) bytes k end (machine_of after state_after checkpoints_after)
    (log_told (rules_of player.system) bytes most (k + 1) (end + 16) (machine_of after state_after checkpoints_after))) →
    Found bytes k at player after state state_after checkpoints checkpoints_after r
found_stamp bytes k at end player after state state_after checkpoints checkpoints_after (Err fault) further same compared is = λ most. is most ∙ compared _
found_stamp bytes k at end player after state state_after checkpoints checkpoints_after (Ok (Break other)) further same compared is =
    let e : Break other ≡ Continue (end + 16) = compared.0 in let z : ◌≡◌ {A = ℕ} 0 1 = cc in absurd (omega arith)
found_stamp bytes k at end player after state state_after checkpoints checkpoints_after (Ok (Continue to)) further same compared is =
    let e : Continue to ≡ Continue (end + 16) = compared.0 in
    let f : end + 16 ≡ to = cc in
    record {
      told_on = λ most. is most ∙ compared.1 _ ∙ ap (λ n. log_told (rules_of player.system) bytes most (k + 1) n (machine_of after state_after checkpoints_after)) f;
      further = omega arith;
      system = same;
    }

-- what is told from call k on, of a system by its other name
pub from_here : (bytes : List ℕ) (k at : ℕ) (m : Machine) (system other : System) → other ≡ system → k < length bytes →
    log_told (rules_of system) bytes (length bytes - k) k at m ≡ log_told (rules_of other) bytes (suc (length bytes - (k + 1))) k at m
from_here bytes k at m system other same h =
    let left : length bytes - k ≡ suc (length bytes - (k + 1)) = omega arith in
    λ i. log_told (rules_of (sym same i)) bytes (left i) k at m
