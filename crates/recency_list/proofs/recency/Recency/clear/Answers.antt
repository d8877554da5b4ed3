use Rattle.std.proofs.Common.{length}
use Rattle.recency_list.proofs.OrderLemmas.{cleared_order}
use Rattle.recency_list.proofs.recency.Recency.clear.Goals as goal

pub invariant_of-self : goal.invariant_of-self
invariant_of-self c = cleared_order c.clear.new.self (length c.self.inside.slots) c.clear.ensures
