use Rattle.std.proofs.Common.{ap, ◌∙◌, refl}
use Rattle.recency_list.specs.Recency.{RecencyValue, without}
use Rattle.recency_list.proofs.OrderLemmas.{is_order_listed, listed_is, no_doubles, same_value}
use Rattle.recency_list.proofs.recency.Recency.remove.Goals as goal

pub invariant_of-self : goal.invariant_of-self
invariant_of-self g c = is_order_listed c.unlink-self-inside.new.slots c.unlink-self-inside.result _ c.unlink-self-inside.ensures.order

pub returns-clause-list : goal.returns-clause-list
returns-clause-list g c =
    same_value _ _
    (listed_is c.unlink-self-inside.new.slots c.unlink-self-inside.result _ c.unlink-self-inside.ensures.order
    ∙ ap (λ (v : RecencyValue). without c.args.slot v.list) c.self.view_is)
    (c.unlink-self-inside.ensures.count ∙ ap (λ (v : RecencyValue). v.slots) c.self.view_is)

pub returns-clause-rules : goal.returns-clause-rules
returns-clause-rules g c =
    no_doubles c.unlink-self-inside.new.slots c.unlink-self-inside.result _ c.unlink-self-inside.ensures.order _
    (listed_is c.unlink-self-inside.new.slots c.unlink-self-inside.result _ c.unlink-self-inside.ensures.order) refl
