-- There is room for all rows, so nothing is refused; and each body has one of them.
use Rattle.std.proofs.Common.{◌≡◌, ℕ, ◌+◌, ◌-◌, ◌*◌, ◌<◌, ◌≤◌, not, length, refl, ◌∙◌, arith, length-drop, length-take, rules}
use borrow.Rule.Slice.PartMut.{put_mid}
use Rattle.std.proofs.lemmas.List.{places}
use Rattle.motion.specs.Changes.{member}
use Rattle.shares.specs.Rows.{members}
use Rattle.shares.proofs.Accepted.{never}
use Rattle.shares.proofs.Joined.{gathered_rows, gathered_behind}
use Rattle.shares.proofs.Members.{members_most, members_both}
use Rattle.shares.proofs.SentRows.{sending_all}
use Rattle.shares.proofs.gather.Goals as goal

pub returns-in_err-sent : goal.returns-in_err-sent
returns-in_err-sent c =
    let n = c.args.system.now.count in
    let share = c.args.shared.first in
    let most = members_most share n in
    absurd (never _ _ _ _ c.in_err-sent.ensures.answer
    (sending_all n share _ _ _ (49 * members share n) refl c.requires.first c.requires.work (omega arith)))

pub returns-in_err-more : goal.returns-in_err-more
returns-in_err-more c =
    let n = c.args.system.now.count in
    let share = c.args.shared.first in
    let rest = c.complement.new.others in
    let sixty_four : length rest ≡ 64 = search rules in
    let few : n ≤ length rest = (let most = c.args.system.now.most in omega arith) in
    let others : (b : ℕ) → b < n → member rest b ≡ not (member share b) = λ b h. c.complement.ensures b (omega arith) in
    let both = members_both share rest n others in
    let size = c.in_ok-sent.ensures.rows.size in
    absurd (never _ _ _ _ c.in_err-more.ensures.answer
    (sending_all n rest _ _ _ (49 * members rest n) refl c.requires.second (omega arith) (simp (length-take, length-drop) (omega arith))))

pub returns : goal.returns
returns c =
    let n = c.args.system.now.count in
    let share = c.args.shared.first in
    let rest = c.complement.new.others in
    let sixty_four : length rest ≡ 64 = search rules in
    let few : n ≤ length rest = (let most = c.args.system.now.most in omega arith) in
    let others : (b : ℕ) → b < n → member rest b ≡ not (member share b) = λ b h. c.complement.ensures b (omega arith) in
    let both = members_both share rest n others in
    let one = c.in_ok-sent.ensures.rows in
    let two = c.in_ok-more.ensures.rows in
    let size = one.size in
    let size' = two.size in
    let long : length c.work_out-2.new.rows ≡ length c.work_out.new.rows - c.in_ok-sent.sent = search (rules, places) in
    let kept : length c.work_out.new.rows ≡ length c.args.rows.now = search rules in
    let room : c.in_ok-sent.sent + c.in_ok-more.more ≤ length c.work_out.new.rows = omega arith in
    let whole : length (put_mid c.in_ok-sent.sent (length c.work_out.new.rows - c.in_ok-sent.sent) c.work_out.new.rows c.work_out-2.new.rows) ≡ length c.work_out.new.rows = search (rules, places) in
    record {
      rows = (omega arith, gathered_rows n share rest _ _ _ _ _ _ _ _ _ others one two refl long room);
      room = record {
        work_behind = c.in_ok-more.ensures.work ∙ c.in_ok-sent.ensures.work;
        rows_behind = gathered_behind n share rest _ _ c.args.rows.now c.work_out.new.rows c.work_out-2.new.rows _ _ _ others one two refl long (omega arith);
      };
    }
