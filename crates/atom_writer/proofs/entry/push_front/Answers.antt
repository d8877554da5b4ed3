use Rattle.atom_writer.specs.Entries.{front_text}
use Rattle.atom_writer.proofs.entry.push_front.Goals as goal

pub returns-clause-added : goal.returns-clause-added
unfolding front_text
returns-clause-added g c =
    let join = g.met.W.Out.joins in
    rw (← c.entry.view_is)
    (join _ _ _ _ _ (join _ _ _ _ _ (join _ _ _ _ _ (join _ _ _ _ _ (join _ _ _ _ _ (join _ _ _ _ _
    (join _ _ _ _ _ (join _ _ _ _ _ (join _ _ _ _ _ (join _ _ _ _ _
    c.in_ok-push.ensures.added c.in_ok-push_id.ensures.added) c.in_ok-push-2.ensures.added)
    c.in_ok-push_construct.ensures.added) c.in_ok-push-3.ensures.added) c.in_ok-push_stamp.ensures.added)
    c.in_ok-push-4.ensures.added) c.in_ok-push_published.ensures.added) c.in_ok-push-5.ensures.added)
    c.in_ok-push_stamp-2.ensures.added) c.in_ok-push-6.ensures.added)
