use Rattle.std.proofs.Common.{◌≡◌, Option, sym, ap, ◌∙◌, subst, ℕ}
use Rattle.std.specs.Prelude.{Contains, IfSome}
use Rattle.recency_list.specs.Links.{listed}
use Rattle.recency_list.specs.Recency.{RecencyValue, older_than}
use Rattle.recency_list.proofs.ApartLemmas.{older_contained}
use Rattle.recency_list.proofs.OrderLemmas.{contained, exists, next_is, no_doubles}
use Rattle.recency_list.proofs.recency.Recency.older.Goals as goal
use Rattle.recency_list.proofs.recency.Recency.older.Goals.{After-get}

pub get-requires : goal.get-requires
get-requires c =
    let inside = c.self.inside in
    exists inside.slots inside.first (listed inside.slots inside.first) c.self.invariant c.args.slot
    (contained inside.slots inside.first (listed inside.slots inside.first) c.self.invariant c.args.slot
    (subst (λ (v : RecencyValue). Contains v.list c.args.slot) (sym c.self.view_is) c.requires))

next : (c : After-get) → c.get.result.older ≡ older_than c.args.slot c.args.self.now.list
next c =
    let inside = c.self.inside in
    let list = listed inside.slots inside.first in
    next_is inside.slots inside.first list c.self.invariant c.args.slot
    (contained inside.slots inside.first list c.self.invariant c.args.slot
    (subst (λ (v : RecencyValue). Contains v.list c.args.slot) (sym c.self.view_is) c.requires))
    c.get.result.newer c.get.result.older (sym c.get.ensures)
    ∙ ap (λ (v : RecencyValue). older_than c.args.slot v.list) c.self.view_is

pub returns-clause-next : goal.returns-clause-next
returns-clause-next c = next c

pub returns-clause-listed : goal.returns-clause-listed
returns-clause-listed c =
    subst (λ (o : Option ℕ). IfSome o (Contains c.args.self.now.list)) (sym (next c))
    (older_contained c.args.slot c.args.self.now.list)

pub returns-clause-rules : goal.returns-clause-rules
returns-clause-rules c =
    let inside = c.self.inside in
    no_doubles inside.slots inside.first (listed inside.slots inside.first) c.self.invariant _
    (ap (λ (v : RecencyValue). v.list) (sym c.self.view_is)) (ap (λ (v : RecencyValue). v.slots) (sym c.self.view_is))
