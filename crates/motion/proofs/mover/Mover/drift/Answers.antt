-- A body that is meant moves, and another is passed over.
use Rattle.std.proofs.Common.{◌≡◌, ◌+◌, ◌-◌, ◌*◌, ◌≤◌, length, sym, ◌∙◌, arith, rules}
use Rattle.std.proofs.lemmas.List.{places}
use Rattle.motion.proofs.Drifts.{drifted_more, drifted_skip}
use Rattle.motion.proofs.Masses.{mass_read}
use Rattle.motion.proofs.mover.Mover.drift.Goals as goal
use Rattle.motion.proofs.mover.Mover.drift.Goals.{then-has, else-has}

pub loop-b-preserved : goal.loop-b-preserved
loop-b-preserved g c =
    let b = c.loop-b.b in
    let who = g.M.Members.has c.args.members.now in
    let masses = c.masses-mass-items in
    elim c.if-has.branch [
      | then-has w ↦
          let six : length w.drift.new.words ≡ 6 = search (rules, places) in
          let room : 6 * b + 6 ≤ length c.loop-b.state = omega arith in
          simp w.state-is (drifted_more _ _ who b _ _ c.loop-b.invariant w.drift.new.words _ (6 * b + 6 - 6 * b) room six (omega arith)
          (mass_read masses.result.now _ _ b _ c.loop-b-test.true c.mass-item.is masses.ensures.masses) w.drift.ensures)
      | else-has w ↦ simp w.state-is (drifted_skip _ _ who b _ _ c.loop-b.invariant (sym c.has.ensures ∙ w.if-has.false))
    ]
