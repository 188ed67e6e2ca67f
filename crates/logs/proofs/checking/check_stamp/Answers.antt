-- What is read of the sixteen bytes is compared.
use Rattle.std.proofs.Common.{◌≡◌, ◌+◌, ◌≤◌, true, false, ◌&&◌, eqb, length, refl, ◌∙◌, arith, rules}
use Rattle.std.proofs.lemmas.List.Edits.{length-between}
use Rattle.calls.specs.Machine.{rules_of}
use Rattle.calls.specs.Sessions.{machine_in_session}
use Rattle.logs.proofs.Found.{told_by_stamp}
use Rattle.logs.proofs.Stamps.{same_read}
use Rattle.logs.proofs.checking.check_stamp.Goals as goal

pub returns-then-ne : goal.returns-then-ne
returns-then-ne c =
    let bytes = c.args.bytes.now in
    let at = c.args.at in
    let player = c.args.session.now.player in
    let first = c.in-Some.ensures.cases in
    let long = length-between bytes at (length bytes) (omega arith) in
    let room : at + 16 ≤ length bytes = omega (arith, first.enough, long) in
    let read = c.read.result in
    let now = c.of.result in
    let differs : (eqb read.time now.time && eqb read.sum now.sum) ≡ false = search rules in
    let m = machine_in_session c.args.session.now in
    λ rest.
    told_by_stamp (rules_of player.system) bytes c.args.number at m false room
    (same_read player.system.count bytes m at c.in-Some.stamp.now read.time read.sum now.time now.sum room first.same c.read.ensures.time c.read.ensures.sum
    c.of.ensures.time c.of.ensures.sum ∙ differs) rest

pub returns : goal.returns
returns c =
    let bytes = c.args.bytes.now in
    let at = c.args.at in
    let player = c.args.session.now.player in
    let first = c.in-Some.ensures.cases in
    let long = length-between bytes at (length bytes) (omega arith) in
    let room : at + 16 ≤ length bytes = omega (arith, first.enough, long) in
    let read = c.read.result in
    let now = c.of.result in
    let equal : (eqb read.time now.time && eqb read.sum now.sum) ≡ true = search rules in
    let m = machine_in_session c.args.session.now in (
      refl,
      told_by_stamp (rules_of player.system) bytes c.args.number at m true room
          (same_read player.system.count bytes m at c.in-Some.stamp.now read.time read.sum now.time now.sum room first.same c.read.ensures.time c.read.ensures.sum
          c.of.ensures.time c.of.ensures.sum ∙ equal),
    )
