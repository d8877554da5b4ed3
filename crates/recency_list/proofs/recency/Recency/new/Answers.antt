use Rattle.recency_list.proofs.OrderLemmas.{cleared_order}
use Rattle.recency_list.proofs.recency.Recency.new.Goals as goal

pub invariant_of-result : goal.invariant_of-result
invariant_of-result c = cleared_order c.new.result 0 c.new.ensures
