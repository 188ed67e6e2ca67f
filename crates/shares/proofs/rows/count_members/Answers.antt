-- What is counted are the elements that name a member.
use Rattle.std.proofs.Common.{◌∙◌, rules, tests}
use Rattle.std.proofs.lemmas.Iterator.{YieldsList-from_slice, YieldsList-from_take}
use Rattle.std.proofs.lemmas.Iterator.Consumers.{YieldsList-at, YieldsList-from_filter, count_from_yields_List}
use Rattle.shares.proofs.Members.{members_named}
use Rattle.shares.proofs.rows.count_members.Goals as goal

pub returns-clause-value : goal.returns-clause-value
returns-clause-value c =
    let share = c.args.share.now in
    let n = c.args.count in
    count_from_yields_List c.filter.result _ c.count.ensures.ran
    (YieldsList-from_filter _ (λ has. has)
    (YieldsList-at c.filter.ensures.source (YieldsList-from_take n (YieldsList-at c.take.ensures.source (YieldsList-from_slice share (cc))) c.take.ensures.count))
    c.filter.ensures.closure (λ x r q k. search (rules, tests)))
    ∙ members_named share n
