use Rattle.atom_writer.specs.Parts.{link_text}
use Rattle.atom_writer.proofs.link.push_link.Goals as goal

pub returns-clause-added : goal.returns-clause-added
unfolding link_text
returns-clause-added g c =
    let join = g.met.W.Out.joins in
    join _ _ _ _ _ (join _ _ _ _ _ (join _ _ _ _ _ (join _ _ _ _ _ (join _ _ _ _ _ (join _ _ _ _ _
    (join _ _ _ _ _
    c.in_ok-push.ensures.added c.in_ok-push_relation.ensures.added) c.in_ok-push_attribute.ensures.added)
    c.in_ok-push_optional_attribute.ensures.added) c.in_ok-push_optional_attribute-2.ensures.added)
    c.in_ok-push_optional_attribute-3.ensures.added) c.in_ok-push_optional_attribute-4.ensures.added)
    c.in_ok-push-2.ensures.added
