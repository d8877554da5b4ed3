use Rattle.doc_source.proofs.IntakeLemmas.{consumed}
use Rattle.doc_source.proofs.intake.Intake.consume.Goals as goal

pub returns : goal.returns
returns c =
    let within = rw (← c.self.view_is) at c.requires in
    rw (← c.self.view_is) (consumed c.self.inside.buffer.items c.self.inside.start c.self.inside.end c.args.count
    c.self.inside.taken c.self.inside.limit within)
