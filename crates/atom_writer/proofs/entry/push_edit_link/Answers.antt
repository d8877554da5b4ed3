use Rattle.atom_writer.specs.Entries.{edit_link}
use Rattle.atom_writer.proofs.entry.push_edit_link.Goals as goal

pub returns-clause-added : goal.returns-clause-added
unfolding edit_link
returns-clause-added g c =
    let join = g.met.W.Out.joins in
    join _ _ _ _ _ (join _ _ _ _ _
    c.in_ok-push.ensures.added c.in_ok-push_address.ensures.added) c.in_ok-push-2.ensures.added
