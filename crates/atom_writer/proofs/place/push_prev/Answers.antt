use Rattle.atom_writer.proofs.PieceLemmas.{prev_none, prev_some}
use Rattle.atom_writer.proofs.place.push_prev.Goals as goal

pub returns-then-prev-eq0-clause-added : goal.returns-then-prev-eq0-clause-added
returns-then-prev-eq0-clause-added g c =
    rw (prev_none c.args.name.now c.args.prev c.if-prev-eq0.true) (g.met.W.Out.starts _)

pub returns-clause-added : goal.returns-clause-added
returns-clause-added g c =
    rw (prev_some c.args.name.now c.args.prev c.if-prev-eq0.false) c.in_ok-push_link.ensures.added
