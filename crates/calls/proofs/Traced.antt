-- Rows and traces, one call at a time.
use Rattle.std.proofs.Common.{◌≡◌, ℕ, zero, suc, ◌+◌, ◌<◌, ◌≤◌, cond, List, ◌++◌, length, codes, sym, refl, ap, ◌∙◌, subst, append_assoc, le-leb}
use borrow.Author.Tests.{lt-leb}
use Rattle.motion.specs.Refusals.{Told, good, refused}
use Rattle.calls.specs.Answers.{answer_text}
use Rattle.calls.specs.Calls.{over, begin, size_of, call_at, row_from}
use Rattle.calls.specs.Checkpoints.{machine_of}
use Rattle.calls.specs.Machine.{Rules, Machine, obey}
use Rattle.calls.specs.Outcomes.{Untouched}
use Rattle.calls.specs.Reports.{SoFar, BehindSame}
use Rattle.calls.specs.Trace.{Trace, ended, stopped, answered, follow, trace, last, lines, ending}
use Rattle.calls.specs.declared.answer.Answer.{Answer}
use Rattle.calls.specs.declared.call.Call.{Call}
use Rattle.calls.specs.declared.player.Player.{Player}

module _ (rules : Rules) (m : Machine) (bytes : List ℕ) (k at : ℕ) where
  -- behind the last byte there is no call
  pub trace_over : (most : ℕ) → length bytes ≤ at → trace rules m k (row_from bytes most k at) ≡ ended
  unfolding trace row_from
  trace_over zero past = refl
  trace_over (suc most) past =
      ap (λ b. trace rules m k (cond b over (begin (call_at bytes k at) (λ call. row_from bytes most (k + 1) (at + size_of call))))) (le-leb (length bytes) at past)

  module _ (there : at < length bytes) (most : ℕ) where
    row_on : (told : Told Call) → call_at bytes k at ≡ told → row_from bytes (suc most) k at ≡ begin told (λ call. row_from bytes most (k + 1) (at + size_of call))
    unfolding row_from
    row_on told e =
        ap (λ b. cond b over (begin (call_at bytes k at) (λ call. row_from bytes most (k + 1) (at + size_of call)))) (lt-leb (length bytes) at there)
        ∙ ap (λ t. begin t (λ call. row_from bytes most (k + 1) (at + size_of call))) e

    -- bytes that are no call
    pub trace_fault : (number place : ℕ) → call_at bytes k at ≡ refused number place → trace rules m k (row_from bytes (suc most) k at) ≡ stopped number place
    unfolding trace
    trace_fault number place e = ap (trace rules m k) (row_on (refused number place) e)

    -- a call that is refused
    pub trace_refused : (call : Call) (number place : ℕ) → call_at bytes k at ≡ good call → (obey rules m k call).answer ≡ refused number place →
        trace rules m k (row_from bytes (suc most) k at) ≡ stopped number place
    unfolding trace
    trace_refused call number place e why =
        ap (trace rules m k) (row_on (good call) e)
        ∙ ap (λ t. follow t (obey rules m k call).after (λ n. trace rules n (k + 1) (row_from bytes most (k + 1) (at + size_of call)))) why

    -- a call that is answered
    pub trace_answered : (call : Call) (answer : Answer) (after : Machine) → call_at bytes k at ≡ good call → (obey rules m k call).answer ≡ good answer →
        after ≡ (obey rules m k call).after →
        trace rules m k (row_from bytes (suc most) k at) ≡ answered answer after (trace rules after (k + 1) (row_from bytes most (k + 1) (at + size_of call)))
    unfolding trace
    trace_answered call answer after e said then =
        ap (trace rules m k) (row_on (good call) e)
        ∙ ap (λ t. follow t (obey rules m k call).after (λ n. trace rules n (k + 1) (row_from bytes most (k + 1) (at + size_of call)))) said
        ∙ ap (λ n. answered answer n (trace rules n (k + 1) (row_from bytes most (k + 1) (at + size_of call)))) (sym then)

module _ {whole : Trace} {opening : Machine} {text : List ℕ} {m : Machine} {rest : Trace} (so_far : SoFar whole opening text m rest) where
  -- the rest by another name
  pub told_same : (other : Trace) → rest ≡ other → SoFar whole opening text m other
  told_same other e = subst (SoFar whole opening text m) e so_far

  -- the machine by another name
  pub told_at : {other : Machine} → m ≡ other → SoFar whole opening text other rest
  told_at {other} e = subst (λ n. SoFar whole opening text n rest) e so_far

  -- one answer more
  pub told_more : (answer : Answer) (after : Machine) (more : Trace) (now : List ℕ) → rest ≡ answered answer after more →
      now ≡ text ++ (answer_text answer ++ codes "\n") → SoFar whole opening now after more
  unfolding last lines ending
  told_more answer after more now e joined = record {
    text_so_far = so_far.text_so_far ∙ ap (λ r. text ++ lines r) e
        ∙ ap (λ l. text ++ l) (sym (append_assoc (answer_text answer) (codes "\n") (lines more)))
        ∙ sym (append_assoc text (answer_text answer ++ codes "\n") (lines more)) ∙ ap (λ l. l ++ lines more) (sym joined);
    last_so_far = so_far.last_so_far ∙ ap (last m) e;
    ending_so_far = so_far.ending_so_far ∙ ap ending e;
  }

-- what two changes one after the other leave behind
pub behind_then : {n m : ℕ} {a b c d e f g h i : List ℕ} → m ≡ n → BehindSame n a b d e g h → BehindSame m b c e f h i → BehindSame n a c d f g i
behind_then {n} {m} {a} {b} {c} {d} {e} {f} {g} {h} {i} same first second =
    let then : BehindSame n b c e f h i = subst (λ k. BehindSame k b c e f h i) same second in
    record {
      state_behind = then.state_behind ∙ first.state_behind;
      checkpoints_behind = then.checkpoints_behind ∙ first.checkpoints_behind;
      work_behind = then.work_behind ∙ first.work_behind;
    }

-- where nothing was touched, the machine is the same
pub machine_untouched : {player after : Player} {state state_after checkpoints checkpoints_after work work_after : List ℕ} →
    Untouched player after state state_after checkpoints checkpoints_after work work_after → machine_of player state checkpoints ≡ machine_of after state_after checkpoints_after
machine_untouched same = λ i. machine_of (sym same.player_same i) (sym same.state_same i) (sym same.checkpoints_same i)
