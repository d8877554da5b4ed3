use Rattle.std.proofs.Common.{ap, ◌∙◌, ◌∷◌, ℕ, List, refl, nat_eq, Some}
use Rattle.std.specs.List.{list_any}
use Rattle.recency_list.specs.Links.{listed}
use Rattle.recency_list.specs.Recency.{RecencyValue, touched}
use Rattle.recency_list.proofs.ApartLemmas.{any_without}
use Rattle.recency_list.proofs.OrderLemmas.{is_order_listed, listed_is, no_doubles, same_value}
use Rattle.recency_list.proofs.recency.Recency.touch.Goals as goal

pub link_first-requires-clause-order : goal.link_first-requires-clause-order
link_first-requires-clause-order g c = is_order_listed c.unlink-first.new.slots c.unlink-first.result _ c.unlink-first.ensures.order

pub link_first-requires-clause-unlisted : goal.link_first-requires-clause-unlisted
link_first-requires-clause-unlisted g c =
    ap (λ (l : List ℕ). list_any (λ other. nat_eq c.args.slot other) l)
    (listed_is c.unlink-first.new.slots c.unlink-first.result _ c.unlink-first.ensures.order)
    ∙ any_without c.args.slot (listed c.self.inside.slots c.self.inside.first)

pub invariant_of-self : goal.invariant_of-self
invariant_of-self g c = is_order_listed c.link_first.new.slots (Some c.args.slot) _ c.link_first.ensures.order

pub returns-clause-list : goal.returns-clause-list
returns-clause-list g c =
    same_value _ _
    (listed_is c.link_first.new.slots (Some c.args.slot) _ c.link_first.ensures.order
    ∙ ap (λ (l : List ℕ). c.args.slot ∷ l)
    (listed_is c.unlink-first.new.slots c.unlink-first.result _ c.unlink-first.ensures.order)
    ∙ ap (λ (v : RecencyValue). touched c.args.slot v.list) c.self.view_is)
    (c.link_first.ensures.count ∙ c.unlink-first.ensures.count ∙ ap (λ (v : RecencyValue). v.slots) c.self.view_is)

pub returns-clause-rules : goal.returns-clause-rules
returns-clause-rules g c =
    no_doubles c.link_first.new.slots (Some c.args.slot) _ c.link_first.ensures.order _
    (listed_is c.link_first.new.slots (Some c.args.slot) _ c.link_first.ensures.order) refl
