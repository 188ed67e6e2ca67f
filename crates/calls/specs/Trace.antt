-- What a machine does with a row of calls, and the text that tells of it.
-- Assumes nothing: these are definitions.
use Rattle.std.specs.Prelude.{ℕ, ◌+◌, List, [], ◌++◌, codes}
use Rattle.motion.specs.Refusals.{Told, good, refused, refusal_text}
use Rattle.calls.specs.Answers.{answer_text}
use Rattle.calls.specs.Calls.{Row, over, fault, next}
use Rattle.calls.specs.Machine.{Rules, Machine, obey}
use Rattle.calls.specs.declared.answer.Answer.{Answer}

-- what comes of a row: it ends, or stops at a refusal by number and place, or a call is answered, the machine is another,
-- and the row goes on
pub data Trace : Type 0 where
  ended : Trace
  stopped : ℕ → ℕ → Trace
  answered : Answer → Machine → Trace → Trace

-- a trace that begins with a reply, and goes on with the machine after it
abbrev pub follow : Told Answer → Machine → (Machine → Trace) → Trace
follow (good answer) after rest = answered answer after (rest after)
follow (refused number place) after rest = stopped number place

module _ (rules : Rules) where
  -- what a machine does with a row whose calls count from k
  unfoldable pub trace : Machine → ℕ → Row → Trace
  trace m k over = ended
  trace m k (fault number place) = stopped number place
  trace m k (next call row) = follow (obey rules m k call).answer (obey rules m k call).after (λ after. trace after (k + 1) row)

-- the machine where a trace that began with m comes to its end
unfoldable pub last : Machine → Trace → Machine
last m ended = m
last m (stopped number place) = m
last m (answered answer after rest) = last after rest

-- the lines that tell of a trace, one for each answer and one for a refusal
unfoldable pub lines : Trace → List ℕ
lines ended = []
lines (stopped number place) = refusal_text number place ++ codes "\n"
lines (answered answer after rest) = answer_text answer ++ (codes "\n" ++ lines rest)

-- how a trace ends: well, or by a refusal
unfoldable pub ending : Trace → Told (Unit {0})
ending ended = good tt
ending (stopped number place) = refused number place
ending (answered answer after rest) = ending rest
