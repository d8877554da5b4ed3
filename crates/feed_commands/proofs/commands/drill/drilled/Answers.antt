use Rattle.feed_commands.proofs.DrillEndLemmas.{drill-text}
use Rattle.feed_commands.proofs.commands.drill.drilled.Goals as goal

pub returns-in-Ok-clause-text : goal.returns-in-Ok-clause-text
returns-in-Ok-clause-text c =
    drill-text _ c.args.seed c.args.count c.in_ok-drill.drill.summary c.in-Ok.text.items c.in_ok-head.ensures
    c.in_ok-drill.ensures.summary c.in-Ok.ensures
