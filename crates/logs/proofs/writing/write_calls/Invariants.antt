-- What is written in all is what is written so far, and what is written from this call on.
use Rattle.std.proofs.Common.{◌≡◌, ◌-◌, ◌++◌, length, vec_items}
use Rattle.calls.specs.Machine.{rules_of}
use Rattle.calls.specs.Sessions.{Kept, machine_in_session}
use Rattle.logs.specs.Writing.{written_from}
use Rattle.logs.proofs.writing.write_calls.Given as goal

abbrev pub invariant-loop-number : goal.invariant-loop-number
invariant-loop-number l =
    record {
      written : vec_items l.initial.log ++ written_from (rules_of l.initial.session.player.system) l.bytes (length l.bytes) 0 l.from (machine_in_session l.initial.session)
          ≡ vec_items l.log ++ written_from (rules_of l.initial.session.player.system) l.bytes (length l.bytes - l.number-iterator.number) l.number-iterator.number l.number-iterator.at (machine_in_session l.session);
      kept : Kept l.initial.session l.session;
      row : l.number-iterator.bytes.now ≡ l.bytes;
    }
