use Rattle.std.proofs.Common.{ap, refl, sym, ◌∙◌, is_some, nat_eq, Some}
use Rattle.std.specs.Option.{option_eq}
use Rattle.std.proofs.lemmas.Bool.{eq-eqb, false≢true}
use Rattle.recency_list.specs.Links.{listed}
use Rattle.recency_list.specs.declared.slots.Slot.{Slot}
use Rattle.recency_list.proofs.OrderLemmas.{later_listed}
use Rattle.recency_list.proofs.links.is_listed.Goals as goal

pub returns-else-eq : goal.returns-else-eq
returns-else-eq c =
    c.is_some.ensures
    ∙ ap (λ (s : Slot). is_some s.newer) c.get.ensures
    ∙ later_listed c.args.slots.now c.args.first (listed c.args.slots.now c.args.first) c.requires.order c.args.slot
    (λ e. false≢true (sym c.if-eq.false ∙ c.eq.ensures ∙ ap (λ o. option_eq nat_eq o (Some c.args.slot)) e
    ∙ eq-eqb c.args.slot c.args.slot refl))
