-- A call's record is its bytes, and behind an answer its stamp.
use Rattle.std.proofs.Common.{◌+◌, cond, [], ◌∷◌, ◌++◌, Ok, Err, eqb, vec_items, sym, ap, ◌∙◌, subst, append_assoc}
use Rattle.words.specs.Bytes.{bytes_of}
use Rattle.motion.specs.Refusals.{refused, number_of, place_of}
use Rattle.calls.specs.Calls.{bytes_of_call}
use Rattle.calls.specs.Machine.{rules_of}
use Rattle.calls.specs.Rows.{IsRead}
use Rattle.calls.specs.Sessions.{machine_in_session}
use Rattle.logs.specs.Logs.{stamp}
use Rattle.logs.specs.Writing.{written_from}
use Rattle.logs.proofs.Recorded.{written_call, written_refused, written_answered}
use Rattle.logs.proofs.writing.write_call.Goals as goal

pub returns-in-Err-clause-log : goal.returns-in-Err-clause-log
returns-in-Err-clause-log c = λ bytes at to read begins most.
    let before = vec_items c.args.log.now in
    let e = c.in-Err.refusal in
    let fault : IsRead bytes c.args.number at (Err e) to = subst (λ r. IsRead bytes c.args.number at r to) c.in-Err.is read in
    c.in_ok-write_fault-in-Err.ensures
    ∙ (λ i. before ++ cond (eqb (number_of e) 4) (begins i ∷ []) [])
    ∙ ap (λ l. before ++ l) (sym (written_call (rules_of c.args.session.now.player.system) bytes c.args.number at (machine_in_session c.args.session.now) fault.there most
    (refused (number_of e) (place_of e)) (sym fault.call_is)))

pub returns-in-Err-answer-clause-log : goal.returns-in-Err-answer-clause-log
returns-in-Err-answer-clause-log c = λ bytes at to read begins most.
    let call = c.in-Ok.call in
    let e = c.in-Err-answer.field-0 in
    let made : IsRead bytes c.args.number at (Ok call) to = subst (λ r. IsRead bytes c.args.number at r to) c.in-Ok.is read in
    c.in_ok-encode.ensures.items
    ∙ ap (λ l. vec_items c.args.log.now ++ l) (sym (written_refused (rules_of c.args.session.now.player.system) bytes c.args.number at (machine_in_session c.args.session.now) made.there call (sym made.call_is)
    most (number_of e) (place_of e) (sym c.in-Err-answer.ensures.answer)))

pub returns-in_ok-encode-in-Ok-answer-clause-log : goal.returns-in_ok-encode-in-Ok-answer-clause-log
returns-in_ok-encode-in-Ok-answer-clause-log c = λ bytes at to read begins.
    let system = c.args.session.now.player.system in
    let before = vec_items c.args.log.now in
    let call = c.in-Ok.call in
    let made : IsRead bytes c.args.number at (Ok call) to = subst (λ r. IsRead bytes c.args.number at r to) c.in-Ok.is read in
    let obeyed = c.in-Ok-answer.ensures.left in
    let after = machine_in_session c.obey-answer.new.self in
    let written = c.in_ok-encode-in-Ok-answer.ensures
    ∙ (λ i. c.in_ok-encode.ensures.items i ++ (bytes_of 8 (c.of.ensures.time i) ++ bytes_of 8 (c.of.ensures.sum i)))
    ∙ (λ i. (before ++ bytes_of_call call) ++ stamp (obeyed.outside.system i).count after) in
    record {
      written_on = λ most.
          let more = written_from (rules_of system) bytes most (c.args.number + 1) to after in
          ap (λ l. before ++ l) (written_answered (rules_of system) bytes c.args.number at (machine_in_session c.args.session.now) made.there call (sym made.call_is)
          most to c.in-Ok-answer.field-0 after (sym c.in-Ok-answer.ensures.answer) obeyed.machine made.next_is)
          ∙ sym (append_assoc before (bytes_of_call call) (stamp system.count after ++ more))
          ∙ sym (append_assoc (before ++ bytes_of_call call) (stamp system.count after) more)
          ∙ ap (λ l. l ++ more) (sym written);
      further = made.further;
      system = obeyed.outside.system;
    }
