use Rattle.atom_writer.proofs.name.push_between.Goals as goal

pub returns-clause-added : goal.returns-clause-added
returns-clause-added g c =
    let join = g.met.W.Out.joins in
    join _ _ _ _ _ (join _ _ _ _ _
    c.in_ok-push.ensures.added c.in_ok-push_escaped.ensures.added) c.in_ok-push-2.ensures.added
