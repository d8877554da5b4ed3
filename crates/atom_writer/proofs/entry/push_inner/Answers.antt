use Rattle.std.proofs.Common.{ap, ◌∙◌}
use Rattle.atom_values.specs.Entry.{EntryValue}
use Rattle.atom_writer.specs.Entries.{inner_text}
use Rattle.atom_writer.proofs.entry.push_inner.Goals as goal

pub returns-clause-added : goal.returns-clause-added
unfolding inner_text
returns-clause-added g c =
    let join = g.met.W.Out.joins in
    join _ _ _ _ _ (join _ _ _ _ _
    c.in_ok-push_front.ensures.added
    (rw (c.as_slice.ensures.items ∙ ap (λ (e : EntryValue). e.authors) c.entry.view_is)
    at c.in_ok-push_persons.ensures.added))
    c.in_ok-push_back.ensures.added
