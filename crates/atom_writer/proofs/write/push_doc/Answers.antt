use Rattle.atom_writer.proofs.PieceLemmas.{text-is}
use Rattle.atom_writer.proofs.write.push_doc.Goals as goal

pub returns-clause-added : goal.returns-clause-added
returns-clause-added g c =
    let join = g.met.W.Out.joins in
    rw (← c.doc.view_is, ← text-is _)
    (join _ _ _ _ _ (join _ _ _ _ _ (join _ _ _ _ _
    c.in_ok-push_name.ensures.added c.in_ok-push_place.ensures.added)
    (rw c.as_slice.ensures.items at c.in_ok-push_items.ensures.added)) c.in_ok-push.ensures.added)

pub returns-clause-rules : goal.returns-clause-rules
returns-clause-rules g c =
    let name = c.in_ok-push_name.ensures in
    let place = c.in_ok-push_place.ensures in
    rw (← c.doc.view_is)
    (record {
      name = record { base = place.base; id = name.id; title = name.title; author = name.author };
      first = place.first;
      last = place.last;
      prev = place.prev;
      updated = name.updated;
      items = rw c.as_slice.ensures.items at c.in_ok-push_items.ensures.rules;
      rules = c.doc.invariant;
    })
