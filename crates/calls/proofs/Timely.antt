-- After every row of calls the state, and every state that is kept, is that of its time: each call moves along the one
-- line of states through the opening, or changes none.
use Rattle.std.proofs.Common.{◌≡◌, ℕ, ◌+◌, Bool, true, false, cond, eqb, ltb, ℤ, pos, negsuc, ◌+ℤ◌, ◌-ℤ◌, neg_ℤ, Some, None, Option, sym, ap, ◌∙◌, subst, arith}
use Rattle.std.proofs.lemmas.Int.{ints}
use Rattle.words.specs.Words.{words}
use Rattle.words.proofs.Wrapping.{words_lawful}
use Rattle.motion.specs.Bodies.{total_momentum}
use Rattle.motion.specs.Memory.{inside}
use Rattle.motion.specs.Refusals.{Told, good, refused}
use Rattle.motion.specs.Systems.{WordsState, system_law, step_of, back_of}
use Rattle.motion.specs.Travel.{Undone, state_at}
use Rattle.motion.specs.declared.system.System.{System}
use Rattle.motion.proofs.Fairness.{system_undone, system_fair}
use Rattle.motion.proofs.Rows.{again_none, again_kept, state_at_more}
use Rattle.motion.proofs.Undoing.{momentum_kept}
use Rattle.calls.specs.Calls.{Row, over, fault, next}
use Rattle.calls.specs.Machine.{Rules, rules_of, Machine, Checkpoint, Reply, in_range, keep, moved_by, going, obey}
use Rattle.calls.specs.Promises.{BelongsToTime, after_row}
use Rattle.calls.specs.Trace.{Trace, follow, trace, last}
use Rattle.calls.specs.declared.answer.Answer.{Answer}
use Rattle.calls.specs.declared.call.Call.{Call}
use Rattle.calls.specs.declared.call.Call.TheVariants.{Forward, Back, Mark, GoTo, Read}

module _ (rules : Rules) (undone : Undone rules.step rules.back) (s : WordsState) where
  -- the state at a time, from the opening s
  at : ℤ → WordsState
  at t = state_at rules.step rules.back t s

  -- the machine's state and all that it keeps are those of their times
  record Timely (m : Machine) : Type 0 where
    now_is : m.state ≡ at m.time
    kept_is : (c : ℕ) (checkpoint : Checkpoint) → m.kept c ≡ Some checkpoint → checkpoint.state ≡ at checkpoint.time

  moved_timely : (t : ℤ) (m : Machine) → Timely m → Timely (moved_by rules t m)
  unfolding at
  moved_timely t m timely = record {
    now_is = ap (state_at rules.step rules.back t) timely.now_is ∙ state_at_more undone m.time t s;
    kept_is = timely.kept_is;
  }

  kept_timely : (c : ℕ) (m : Machine) → Timely m → Timely (keep c m)
  kept_timely c m timely = record { now_is = timely.now_is; kept_is = λ d checkpoint e. one_of (eqb d c) d checkpoint e }
    where
      one_of : (b : Bool) (d : ℕ) (checkpoint : Checkpoint) → cond b (Some (record { time = m.time; state = m.state })) (m.kept d) ≡ Some checkpoint →
          checkpoint.state ≡ at checkpoint.time
      one_of true d checkpoint e =
          let same : record { time = m.time; state = m.state } ≡ checkpoint = cc in
          subst (λ p. p.state ≡ at p.time) same timely.now_is
      one_of false d checkpoint e = timely.kept_is d checkpoint e

  either : (b : Bool) (x y : Reply) → Timely x.after → Timely y.after → Timely (cond b x y).after
  either true x y p q = p
  either false x y p q = q

  gone_timely : (m : Machine) (k : ℕ) (o : Option Checkpoint) → Timely m → Timely (going rules m k o).after
  gone_timely m k None timely = timely
  gone_timely m k (Some checkpoint) timely = moved_timely _ m timely

  obeyed_timely : (m : Machine) (k : ℕ) (call : Call) → Timely m → Timely (obey rules m k call).after
  obeyed_timely m k (Forward steps) timely = either (in_range (m.time +ℤ pos steps)) _ _ (moved_timely (pos steps) m timely) timely
  obeyed_timely m k (Back steps) timely = either (in_range (m.time +ℤ neg_ℤ (pos steps))) _ _ (moved_timely (neg_ℤ (pos steps)) m timely) timely
  obeyed_timely m k (Mark c) timely = either (ltb c 16) _ _ (kept_timely c m timely) timely
  obeyed_timely m k (GoTo c) timely = gone_timely m k (m.kept c) timely
  obeyed_timely m k (Read b a) timely = either (inside rules.count b a) _ _ timely timely

  followed : (told : Told Answer) (m after : Machine) (rest : Machine → Trace) → Timely m → Timely (last after (rest after)) → Timely (last m (follow told after rest))
  unfolding last
  followed (good answer) m after rest p q = q
  followed (refused number place) m after rest p q = p

  row_timely : (m : Machine) (k : ℕ) (row : Row) → Timely m → Timely (last m (trace rules m k row))
  unfolding last trace
  row_timely m k over timely = timely
  row_timely m k (fault number place) timely = timely
  row_timely m k (next call row) timely =
      let after = obeyed_timely m k call timely in
      followed (obey rules m k call).answer m (obey rules m k call).after (λ n. trace rules n (k + 1) row) timely (row_timely (obey rules m k call).after (k + 1) row after)

  -- the opening, at time 0
  opening : Machine
  opening = record { time = pos 0; state = s; kept = λ c. None }

  opening_timely : Timely opening
  unfolding at opening
  opening_timely = record {
    now_is = sym (again_none rules.step s);
    kept_is = λ c checkpoint e. let z : ◌≡◌ {A = ℕ} 0 1 = cc in absurd (omega arith);
  }

  after_timely : (row : Row) → Timely (after_row rules opening row)
  after_timely row = row_timely opening 0 row opening_timely

  -- from a time to a time
  way : (t u : ℤ) → t +ℤ (u -ℤ t) ≡ u
  way t u = omega (arith, ints)

  leads_back : (m : Machine) → Timely m → (c k : ℕ) (checkpoint : Checkpoint) → m.kept c ≡ Some checkpoint → (obey rules m k (GoTo c)).after.state ≡ checkpoint.state
  unfolding at
  leads_back m timely c k checkpoint e =
      ap (λ o. (going rules m k o).after.state) e
      ∙ ap (state_at rules.step rules.back (checkpoint.time -ℤ m.time)) timely.now_is
      ∙ state_at_more undone m.time (checkpoint.time -ℤ m.time) s
      ∙ ap (λ t. state_at rules.step rules.back t s) (way m.time checkpoint.time)
      ∙ sym (timely.kept_is c checkpoint e)

-- sums of momenta are kept at all times
momentum_at : (system : System) (a : ℕ) (t : ℤ) (s : WordsState) →
    total_momentum (words 64) system.count a (state_at (step_of system) (back_of system) t s) ≡ total_momentum (words 64) system.count a s
momentum_at system a (pos k) s =
    again_kept (step_of system) (momentum_kept (words_lawful 64) (words_lawful 64) (system_law system) system.count (system_fair system) a).by_step k s
momentum_at system a (negsuc k) s =
    again_kept (back_of system) (momentum_kept (words_lawful 64) (words_lawful 64) (system_law system) system.count (system_fair system) a).by_back _ s

pub belongs : (system : System) (s : WordsState) (row : Row) →
    BelongsToTime (rules_of system) (record { time = pos 0; state = s; kept = λ c. None })
    (after_row (rules_of system) (record { time = pos 0; state = s; kept = λ c. None }) row)
unfolding opening at
belongs system s row = record {
  by_time = (timely row).now_is;
  time_alone = λ other e. (timely other).now_is ∙ ap (λ t. state_at (step_of system) (back_of system) t s) e ∙ sym (timely row).now_is;
  leads_back = leads_back (rules_of system) undone s _ (timely row);
  momentum_kept = λ a. ap (total_momentum (words 64) system.count a) (timely row).now_is ∙ momentum_at system a _ s;
}
  where
    undone : Undone (step_of system) (back_of system)
    undone = system_undone system

    timely : (r : Row) → Timely (rules_of system) undone s (after_row (rules_of system) (record { time = pos 0; state = s; kept = λ c. None }) r)
    timely r = after_timely (rules_of system) undone s r
