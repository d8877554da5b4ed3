use Rattle.atom_writer.specs.Entries.{construct}
use Rattle.atom_writer.proofs.construct.push_construct.Goals as goal

pub returns-clause-added : goal.returns-clause-added
unfolding construct
returns-clause-added g c =
    let join = g.met.W.Out.joins in
    join _ _ _ _ _ (join _ _ _ _ _ (join _ _ _ _ _ (join _ _ _ _ _ (join _ _ _ _ _ (join _ _ _ _ _
    (join _ _ _ _ _
    c.in_ok-push.ensures.added c.in_ok-push-2.ensures.added)
    (rw c.open_attributes.ensures at c.in_ok-push-3.ensures.added)) c.in_ok-push-4.ensures.added)
    c.in_ok-push_escaped.ensures.added) c.in_ok-push-5.ensures.added) c.in_ok-push-6.ensures.added)
    c.in_ok-push-7.ensures.added
