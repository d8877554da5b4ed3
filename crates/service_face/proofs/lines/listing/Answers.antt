-- The walk goes over all members.
use Rattle.std.proofs.Common.{arith, subst}
use Rattle.member_rules.specs.Recent.{recent_members}
use Rattle.service_face.specs.Listing.{lines_at}
use Rattle.service_face.proofs.WalkLemmas.{IsWalked, recent-distinct, walk-counted, walk-ends, walk-goes_on}
use Rattle.service_face.proofs.lines.listing.Goals as goal

pub returns-in_default : goal.returns-in_default
returns-in_default c = λ created history table.
    let walked = c.loop.invariant created history table in
    walk-ends c.args.base.now history c.loop.counter c.loop.text.items
    (subst (λ next. IsWalked (recent_members history) (lines_at c.args.base.now history) c.loop.counter next
    c.loop.text.items) c.in_default.is walked)

pub loop-preserved : goal.loop-preserved
loop-preserved c = λ created history table.
    let walked = c.loop.invariant created history table in
    let here = subst (λ next. IsWalked (recent_members history) (lines_at c.args.base.now history) c.loop.counter next
    c.loop.text.items) c.in-Some.is walked in
    walk-goes_on _ _ c.loop.counter c.in-Some.number _ c.loop.text.items _ (recent-distinct history) here
    (c.in_ok-push_member.ensures created history table) (c.before-next.ensures created history table)

pub returns : goal.returns
returns c = λ created history table.
    let all = c.loop-test.false in
    let made = c.count-end.ensures.made created history table in
    walk-counted c.args.base.now created history c.loop.counter c.loop.next c.loop.text.items table.following
    (omega arith) (c.loop.invariant created history table)
