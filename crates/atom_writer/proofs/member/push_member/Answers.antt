use Rattle.std.proofs.Common.{ap, ◌∙◌}
use Rattle.atom_values.specs.Entry.{EntryValue}
use Rattle.atom_writer.specs.Members.{member_text}
use Rattle.atom_writer.proofs.member.push_member.Goals as goal

pub returns-clause-added : goal.returns-clause-added
unfolding member_text
returns-clause-added g c =
    let join = g.met.W.Out.joins in
    join _ _ _ _ _ (join _ _ _ _ _ (join _ _ _ _ _ (join _ _ _ _ _ (join _ _ _ _ _
    c.in_ok-push_declaration.ensures.added c.in_ok-push_member_open.ensures.added)
    c.in_ok-push_front.ensures.added)
    (rw (c.as_slice.ensures.items ∙ ap (λ (e : EntryValue). e.authors) c.entry.view_is)
    at c.in_ok-push_shown_authors.ensures.added))
    c.in_ok-push_back.ensures.added) c.in_ok-push.ensures.added
