use Rattle.std.proofs.Common.{ap, sym, ◌∙◌, Option, ℕ, subst}
use Rattle.std.specs.Prelude.{Contains, IfSome}
use Rattle.recency_list.specs.Links.{listed}
use Rattle.recency_list.specs.Recency.{RecencyValue, first_of}
use Rattle.recency_list.proofs.ApartLemmas.{first_contained}
use Rattle.recency_list.proofs.OrderLemmas.{no_doubles, starts_with}
use Rattle.recency_list.proofs.recency.Recency.front.Goals as goal

pub returns-clause-listed : goal.returns-clause-listed
returns-clause-listed c =
    let inside = c.self.inside in
    subst (λ (o : Option ℕ). IfSome o (Contains c.args.self.now.list))
    (sym (starts_with inside.slots inside.first (listed inside.slots inside.first) c.self.invariant
    ∙ ap (λ (v : RecencyValue). first_of v.list) c.self.view_is))
    (first_contained c.args.self.now.list)

pub returns-clause-rules : goal.returns-clause-rules
returns-clause-rules c =
    let inside = c.self.inside in
    no_doubles inside.slots inside.first (listed inside.slots inside.first) c.self.invariant _
    (ap (λ (v : RecencyValue). v.list) (sym c.self.view_is)) (ap (λ (v : RecencyValue). v.slots) (sym c.self.view_is))
