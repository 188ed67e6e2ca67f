-- A call is decoded, obeyed and compared as is told of it.
use Rattle.std.proofs.Common.{◌+◌, sym, refl, ap, ◌∙◌, subst, arith}
use Rattle.motion.specs.Refusals.{refused, number_of, place_of}
use Rattle.calls.specs.Machine.{rules_of}
use Rattle.calls.specs.Sessions.{machine_in_session}
use Rattle.logs.specs.Checks.{Compared}
use Rattle.logs.proofs.Found.{told_call, told_answered, told_refused, fault_of_kind, fault_of_another, found_ended, found_stamp}
use Rattle.logs.proofs.checking.check_call.Goals as goal

pub returns-in-Kind-clause-found : goal.returns-in-Kind-clause-found
returns-in-Kind-clause-found c =
    let player = c.args.session.now.player in
    let state = c.args.session.now.state.now in
    let kept = c.args.session.now.checkpoints.now in
    let bytes = c.args.bytes.now in
    let k = c.args.number in
    let rules = rules_of player.system in
    let m = machine_in_session c.args.session.now in
    let e = c.in-Err.refusal in
    found_ended bytes k c.args.at player player state state kept kept e _ c.check_end.result (c.check_end.ensures rules k m)
    (λ most. told_call rules bytes k c.args.at m c.requires most (refused (number_of e) (place_of e)) (sym c.in-Err.ensures.answer)
    ∙ fault_of_kind rules bytes k c.args.at m e _ c.in-Kind.is) refl

pub returns-in-Err-clause-found : goal.returns-in-Err-clause-found
returns-in-Err-clause-found c =
    let player = c.args.session.now.player in
    let bytes = c.args.bytes.now in
    let k = c.args.number in
    let rules = rules_of player.system in
    let m = machine_in_session c.args.session.now in
    let e = c.in-Err.refusal in
    λ most. told_call rules bytes k c.args.at m c.requires most (refused (number_of e) (place_of e)) (sym c.in-Err.ensures.answer)
    ∙ fault_of_another rules bytes k c.args.at m e c.in_default.not-Kind

pub returns-in-Ok-obey-clause-found : goal.returns-in-Ok-obey-clause-found
returns-in-Ok-obey-clause-found c =
    let player = c.args.session.now.player in
    let state = c.args.session.now.state.now in
    let kept = c.args.session.now.checkpoints.now in
    let bytes = c.args.bytes.now in
    let rules = rules_of player.system in
    let m = machine_in_session c.args.session.now in
    let k = c.args.number in
    let call = c.in-Ok.call in
    let obeyed = c.in-Ok-obey.ensures.left in
    let end = c.args.at + c.size.result in
    let compared = subst (λ s. Compared (rules_of s) bytes k end (machine_in_session c.obey.new.self) c.check_stamp.result)
    obeyed.outside.system c.check_stamp.ensures in
    found_stamp bytes k c.args.at end player c.obey.new.self.player state c.obey.new.self.state.now kept c.obey.new.self.checkpoints.now c.check_stamp.result (omega arith) obeyed.outside.system compared
    (λ most. told_answered rules bytes k c.args.at m c.requires call end (sym c.in-Ok.ensures.answer) (ap (λ n. c.args.at + n) c.size.ensures)
    most c.in-Ok-obey.field-0 (machine_in_session c.obey.new.self) (sym c.in-Ok-obey.ensures.answer) obeyed.machine)

pub returns-in-Err-obey-clause-found : goal.returns-in-Err-obey-clause-found
returns-in-Err-obey-clause-found c =
    let player = c.args.session.now.player in
    let state = c.args.session.now.state.now in
    let kept = c.args.session.now.checkpoints.now in
    let bytes = c.args.bytes.now in
    let rules = rules_of player.system in
    let m = machine_in_session c.args.session.now in
    let k = c.args.number in
    let call = c.in-Ok.call in
    let e = c.in-Err-obey.refusal in
    let end = c.args.at + c.size.result in
    found_ended bytes k c.args.at player c.obey.new.self.player state c.obey.new.self.state.now kept c.obey.new.self.checkpoints.now e _ c.check_end-in-Err-obey.result
    (c.check_end-in-Err-obey.ensures rules k m)
    (λ most. told_refused rules bytes k c.args.at m c.requires call end (sym c.in-Ok.ensures.answer) (ap (λ n. c.args.at + n) c.size.ensures)
    most (number_of e) (place_of e) (sym c.in-Err-obey.ensures.answer)) c.in-Err-obey.ensures.left.player_same
