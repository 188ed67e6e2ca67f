-- What holds of every row of calls.
-- Assumes nothing: these are definitions and statements.
use Rattle.std.specs.Prelude.{◌≡◌, ℕ, Some}
use Rattle.words.specs.Words.{words}
use Rattle.motion.specs.Bodies.{total_momentum}
use Rattle.motion.specs.Travel.{state_at}
use Rattle.calls.specs.Calls.{Row}
use Rattle.calls.specs.Machine.{Rules, Machine, Checkpoint, obey}
use Rattle.calls.specs.Trace.{trace, last}
use Rattle.calls.specs.declared.call.Call.TheVariants.{GoTo}

-- the machine after a row of calls
abbrev pub after_row : Rules → Machine → Row → Machine
after_row rules m row = last m (trace rules m 0 row)

-- The state belongs to the time, and not to the calls by which one came there.
pub record BelongsToTime (rules : Rules) (opening m : Machine) : Type 0 where
  -- it is the state so many steps from the opening, or so many steps back where the time is negative
  pub by_time : m.state ≡ state_at rules.step rules.back m.time opening.state
  -- every other row of calls from the opening that ends at the same time ends in the same state
  pub time_alone : (other : Row) → (after_row rules opening other).time ≡ m.time → (after_row rules opening other).state ≡ m.state
  -- to go to what is kept leads to the state that was kept
  pub leads_back : (c k : ℕ) (checkpoint : Checkpoint) → m.kept c ≡ Some checkpoint → (obey rules m k (GoTo c)).after.state ≡ checkpoint.state
  -- along each axis the sum of the momenta is that of the opening
  pub momentum_kept : (a : ℕ) →
      total_momentum (words 64) rules.count a m.state ≡ total_momentum (words 64) rules.count a opening.state
