use Rattle.atom_writer.specs.Entries.{published_text}
use Rattle.atom_writer.proofs.entry.push_published.Goals as goal

pub returns-clause-added : goal.returns-clause-added
unfolding published_text
returns-clause-added g c =
    let join = g.met.W.Out.joins in
    rw c.in-Some.is
    (join _ _ _ _ _ (join _ _ _ _ _
    c.in_ok-push.ensures.added c.in_ok-push_stamp.ensures.added) c.in_ok-push-2.ensures.added)
