use Rattle.atom_writer.specs.Parts.{attribute}
use Rattle.atom_writer.proofs.attribute.push_attribute.Goals as goal

pub returns-clause-added : goal.returns-clause-added
unfolding attribute
returns-clause-added g c =
    let join = g.met.W.Out.joins in
    join _ _ _ _ _ (join _ _ _ _ _ (join _ _ _ _ _ (join _ _ _ _ _
    c.in_ok-push.ensures.added c.in_ok-push-2.ensures.added) c.in_ok-push-3.ensures.added)
    c.in_ok-push_escaped.ensures.added) c.in_ok-push-4.ensures.added
