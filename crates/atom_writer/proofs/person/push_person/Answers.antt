use Rattle.atom_writer.specs.Parts.{person_text}
use Rattle.atom_writer.proofs.person.push_person.Goals as goal

pub returns-clause-added : goal.returns-clause-added
unfolding person_text
returns-clause-added g c =
    let join = g.met.W.Out.joins in
    join _ _ _ _ _ (join _ _ _ _ _ (join _ _ _ _ _ (join _ _ _ _ _ (join _ _ _ _ _ (join _ _ _ _ _
    (join _ _ _ _ _ (join _ _ _ _ _
    c.in_ok-push.ensures.added c.in_ok-push-2.ensures.added) c.in_ok-push-3.ensures.added)
    c.in_ok-push_element.ensures.added) c.in_ok-push_optional_element.ensures.added)
    c.in_ok-push_optional_element-2.ensures.added) c.in_ok-push-4.ensures.added)
    c.in_ok-push-5.ensures.added) c.in_ok-push-6.ensures.added
