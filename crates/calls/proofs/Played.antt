-- A whole run: what the opening and the calls leave is the machine at the end of the trace in the bytes.
use Rattle.std.proofs.Common.{◌≡◌, ℕ, List, ◌++◌, drop, replicate, Some, None, codes, Option, sym, refl, ap, ◌∙◌, subst, append-nil}
use Rattle.std.proofs.lemmas.List.{drop_at, length-replicate}
use Rattle.motion.specs.Memory.{state_of}
use Rattle.motion.specs.Refusals.{Told, good, refused, number_of, place_of, refusal_line}
use Rattle.motion.specs.declared.refusal.Refusal.{Refusal}
use Rattle.calls.specs.Calls.{row_in}
use Rattle.calls.specs.Checkpoints.{checkpoints_length, kept_in, machine_of}
use Rattle.calls.specs.Machine.{Machine, rules_of}
use Rattle.calls.specs.Opening.{Opened}
use Rattle.calls.specs.Promises.{BelongsToTime, after_row}
use Rattle.calls.specs.Reports.{SoFar, RowTold, Played, BehindSame, rest_of, end_told, trace_in}
use Rattle.calls.specs.SystemBytes.{body_at, count_in, state_in, rules_in, machine_in}
use Rattle.calls.specs.Trace.{Trace, trace, last, lines, ending}
use Rattle.calls.specs.declared.player.Player.{Player}
use Rattle.calls.proofs.Timely.{belongs}

-- what is left of a row changes no machine
last_rest : (m : Machine) (refusal : Option Refusal) → last m (rest_of refusal) ≡ m
unfolding last
last_rest m None = refl
last_rest m (Some refusal) = refl

-- and tells how it ended
ending_rest : (refusal : Option Refusal) → ending (rest_of refusal) ≡ end_told refusal
unfolding ending
ending_rest None = refl
ending_rest (Some refusal) = refl

-- the lines of what is left
pub lines_none : (text whole : List ℕ) → whole ≡ text ++ lines (rest_of None) → text ≡ whole
unfolding lines
lines_none text whole e = sym (e ∙ append-nil text)

pub lines_some : (refusal : Refusal) (text whole now : List ℕ) → whole ≡ text ++ lines (rest_of (Some refusal)) →
    now ≡ text ++ (refusal_line refusal ++ codes "\n") → now ≡ whole
unfolding lines
lines_some refusal text whole now e joined = joined ∙ sym e

-- a refused opening tells how it ended
pub refused_ending : (bytes : List ℕ) (refusal : Refusal) (verdict : Told (Unit {0})) → refused (number_of refusal) (place_of refusal) ≡ verdict →
    end_told (Some refusal) ≡ ending (trace_in bytes verdict)
unfolding ending
refused_ending bytes refusal verdict e = ap (λ v. ending (trace_in bytes v)) e

-- player has opened the bytes, and `after` is the player behind the last call that was made
module _ (bytes : List ℕ) (player after : Player) (state opened_state state_after checkpoints opened_checkpoints checkpoints_after text : List ℕ) (from : ℕ)
    (opened : Opened bytes player state opened_state checkpoints opened_checkpoints) (begins : from ≡ body_at player.system.count) (system : after.system ≡ player.system)
    (refusal : Option Refusal)
    (told : RowTold (trace (rules_of player.system) (machine_of player opened_state opened_checkpoints) 0 (row_in bytes from)) (machine_of player opened_state opened_checkpoints)
    text (machine_of after state_after checkpoints_after) refusal) where
  count : player.system.count ≡ count_in bytes
  count = ap (λ r. r.count) opened.rules

  whole : Trace
  whole = trace_in bytes (good tt)

  told_in_bytes : SoFar whole (machine_in bytes) text (machine_of after state_after checkpoints_after) (rest_of refusal)
  unfolding whole
  told_in_bytes = subst (λ t. SoFar t (machine_in bytes) text (machine_of after state_after checkpoints_after) (rest_of refusal))
      (λ i. trace (opened.rules i) (machine_in bytes) 0 (row_in bytes ((begins ∙ ap body_at count) i)))
      (subst (λ m. SoFar (trace (rules_of player.system) m 0 (row_in bytes from)) m text (machine_of after state_after checkpoints_after) (rest_of refusal)) opened.machine told)

  -- the machine at the end
  ends : last (machine_in bytes) whole ≡ machine_of after state_after checkpoints_after
  ends = told_in_bytes.last_so_far ∙ last_rest _ refusal

  pub played_ending : end_told refusal ≡ ending (trace_in bytes (good tt))
  unfolding whole
  played_ending = sym (told_in_bytes.ending_so_far ∙ ending_rest refusal)

  pub played : Played bytes state_after checkpoints_after
  unfolding whole
  played =
      let n = ap (λ s. s.count) system ∙ count in
      let state_is = ap (λ k. state_of k state_after) (sym n) ∙ sym (ap (λ m. m.state) ends) in
      let kept_is = ap (λ k. kept_in k checkpoints_after) (sym n) ∙ sym (ap (λ m. m.kept) ends) in
      record {
        state_is = state_is;
        kept_is = kept_is;
        timely = subst (BelongsToTime (rules_in bytes) (machine_in bytes)) (λ i. record { time = (last (machine_in bytes) (trace_in bytes (good tt))).time; state = sym state_is i; kept = sym kept_is i })
            (subst (λ r. BelongsToTime r (machine_in bytes) (after_row r (machine_in bytes) (row_in bytes (body_at (count_in bytes))))) opened.rules
            (belongs player.system (state_in bytes) (row_in bytes (body_at (count_in bytes)))));
      }

-- what an opening leaves behind
pub opened_behind : (bytes : List ℕ) (player : Player) (state opened_state checkpoints opened_checkpoints work : List ℕ) →
    Opened bytes player state opened_state checkpoints opened_checkpoints → BehindSame (count_in bytes) state opened_state checkpoints opened_checkpoints work work
opened_behind bytes player state opened_state checkpoints opened_checkpoints work opened = record {
  state_behind = opened.state_behind;
  checkpoints_behind = ap (drop (checkpoints_length (count_in bytes))) opened.checkpoints_are
      ∙ drop_at (replicate (checkpoints_length (count_in bytes)) 0) (drop (checkpoints_length (count_in bytes)) checkpoints) (checkpoints_length (count_in bytes))
      (length-replicate (checkpoints_length (count_in bytes)) 0);
  work_behind = refl;
}
