use Rattle.chain_links.proofs.PartOffsetLemmas.{spells_same, path_at}
use Rattle.chain_links.proofs.base.Base.path.Goals as goal

pub returns-clause-path : goal.returns-clause-path
returns-clause-path c = λ parts spells.
    let inside = spells_same parts c.args.self.now c.self.inside.text.items c.self.view_is spells in
    rw c.deref.ensures.value
    (path_at parts c.self.inside.text.items c.self.inside.parts.host_end c.self.inside.parts.port
    c.self.inside.parts.path_start inside (c.self.invariant.parts parts inside))
