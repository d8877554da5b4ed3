use Rattle.store_commands.proofs.LinesLemmas.{TakesEnd-met}
use Rattle.store_commands.proofs.lines.Lines.take_line.Goals as goal

pub returns-in_ok-keep-in-Some-clause-ended : goal.returns-in_ok-keep-in-Some-clause-ended
returns-in_ok-keep-in-Some-clause-ended c =
    λ _. rw (← c.self.view_is)
    (rw c.deref.ensures.value at
    (TakesEnd-met c.deref.result.now c.self.inside.start c.self.inside.end c.in-Some.at c.self.inside.line.items
    c.keep.new.line.items c.self.inside.allowed c.self.inside.ended c.in-Some.ensures c.in_ok-keep-in-Some.ensures.ok))
