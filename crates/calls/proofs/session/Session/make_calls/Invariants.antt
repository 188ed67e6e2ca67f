-- The calls before this one are told, and what is left of the row begins here.
use Rattle.std.proofs.Common.{◌≡◌, ◌-◌, length, string_bytes}
use Rattle.calls.specs.Calls.{row_in, row_from}
use Rattle.calls.specs.Machine.{rules_of}
use Rattle.calls.specs.Reports.{SoFar}
use Rattle.calls.specs.Sessions.{Kept, machine_in_session}
use Rattle.calls.specs.Trace.{trace}
use Rattle.calls.proofs.session.Session.make_calls.Given as goal

abbrev pub invariant-loop-number : goal.invariant-loop-number
invariant-loop-number l = record {
  told : SoFar (trace (rules_of l.initial.self.player.system) (machine_in_session l.initial.self) 0 (row_in l.fn.calls.bytes.now l.fn.calls.at))
      (machine_in_session l.initial.self) (string_bytes l.text) (machine_in_session l.self)
      (trace (rules_of l.initial.self.player.system) (machine_in_session l.self) l.number-iterator.number
      (row_from l.fn.calls.bytes.now (length l.fn.calls.bytes.now - l.number-iterator.number) l.number-iterator.number l.number-iterator.at));
  kept : Kept l.initial.self l.self;
  row : l.number-iterator.bytes.now ≡ l.fn.calls.bytes.now;
}
