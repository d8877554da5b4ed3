use Rattle.std.proofs.Common.{ap, sym}
use Rattle.recency_list.specs.Recency.{RecencyValue}
use Rattle.recency_list.proofs.OrderLemmas.{grown, grown_value}
use Rattle.recency_list.proofs.recency.Recency.reserve.Goals as goal

pub invariant_of-self : goal.invariant_of-self
invariant_of-self c =
    grown c.grow.result c.self.inside.slots c.grow.new.self c.self.inside.first c.args.slots c.self.invariant
    c.grow.ensures.ok c.grow.ensures.err

pub returns-clause-ok : goal.returns-clause-ok
returns-clause-ok c =
    grown_value c.grow.result c.self.inside.slots c.grow.new.self c.self.inside.first c.args.slots c.args.self.now
    (ap (λ (v : RecencyValue). v.list) (sym c.self.view_is)) (ap (λ (v : RecencyValue). v.slots) (sym c.self.view_is))
    c.self.invariant c.grow.ensures.ok
