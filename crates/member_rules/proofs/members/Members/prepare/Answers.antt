use Rattle.member_rules.proofs.RecentLemmas.{AreOrdered-reserved}
use Rattle.member_rules.proofs.members.Members.prepare.Goals as goal

pub invariant_of-self-2 : goal.invariant_of-self-2
invariant_of-self-2 c =
    rw c.reserve.ensures.len (
      c.self.invariant.0,
      AreOrdered-reserved c.reserve-2.result _ _ _ _ c.self.invariant.1 c.reserve-2.ensures.ok c.reserve-2.ensures.err,
    )
