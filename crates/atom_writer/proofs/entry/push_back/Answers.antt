use Rattle.atom_writer.specs.Entries.{back_text}
use Rattle.atom_writer.proofs.entry.push_back.Goals as goal

pub returns-clause-added : goal.returns-clause-added
unfolding back_text
returns-clause-added g c =
    let join = g.met.W.Out.joins in
    rw (← c.entry.view_is)
    (join _ _ _ _ _ (join _ _ _ _ _ (join _ _ _ _ _ (join _ _ _ _ _ (join _ _ _ _ _ (join _ _ _ _ _
    (rw c.as_slice.ensures.items at c.in_ok-push_persons.ensures.added)
    c.in_ok-push_edit_link.ensures.added)
    (rw c.as_slice-2.ensures.items at c.in_ok-push_links.ensures.added))
    (rw c.as_slice-3.ensures.items at c.in_ok-push_categories.ensures.added))
    c.in_ok-push_optional_construct.ensures.added) c.in_ok-push_optional_construct-2.ensures.added)
    c.in_ok-push_optional_construct-3.ensures.added)
