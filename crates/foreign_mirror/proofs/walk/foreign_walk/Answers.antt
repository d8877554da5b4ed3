use Rattle.foreign_mirror.proofs.SoFarLemmas.{walked-by}
use Rattle.foreign_mirror.proofs.walk.foreign_walk.Goals as goal

pub returns-in-Ok-clause-walked : goal.returns-in-Ok-clause-walked
returns-in-Ok-clause-walked g c = λ sees.
    walked-by (g.F.Fetch.state c.args.fetch.now) (g.F.Fetch.state c.run.new.fetch) c.args.from.now c.run.new.self
    c.in-Ok.end c.finish.result (c.in-Ok.ensures.ran sees) c.finish.ensures.found c.finish.ensures.unfailed
