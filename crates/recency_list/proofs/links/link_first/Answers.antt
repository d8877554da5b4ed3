use Rattle.std.proofs.Common.{List, ◌∷◌, Some, None, set, sym, ap, subst, ◌∙◌}
use Rattle.recency_list.specs.Links.{IsOrder, listed}
use Rattle.recency_list.specs.declared.slots.Slot.{Slot}
use Rattle.recency_list.proofs.OrderLemmas.{first_below, linked_first}
use Rattle.recency_list.proofs.links.link_first.Goals as goal

pub set_newer-requires : goal.set_newer-requires
set_newer-requires g c =
    first_below c.args.slots.now c.args.first (listed c.args.slots.now c.args.first) c.requires.order c.args.slot
    c.requires.exists c.requires.unlisted

pub returns-clause-order : goal.returns-clause-order
returns-clause-order g c =
    let list = listed c.args.slots.now c.args.first in
    subst (λ (s : List Slot). IsOrder s (Some c.args.slot) (c.args.slot ∷ list))
    (sym (c.write.ensures.slots ∙ ap (λ s. set s c.args.slot (record { newer = None; older = c.args.first })) c.set_newer.ensures.slots))
    (linked_first c.args.slots.now c.args.first list c.requires.order c.args.slot c.requires.exists c.requires.unlisted)
