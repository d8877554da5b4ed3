use Rattle.std.proofs.Common.{◌+◌, arith}
use Rattle.feed_disk.specs.declared.choice.Choice.TheVariants.{New}
use Rattle.feed_life.proofs.CrashLemmas.{crash-last, crash-made}
use Rattle.feed_life.proofs.walks.copy_of.Goals as goal

pub returns-in-Ok-clause-copy : goal.returns-in-Ok-clause-copy
returns-in-Ok-clause-copy c =
    crash-last c.image.result c.args.disk.now c.size.new.self (c.calls-before.result + 1) c.size.ensures.areas
    (omega (arith, c.calls-before.ensures))
    (crash-made c.image.result c.size.new.self (c.calls-before.result + 1) New c.image.ensures.disk
    c.image.ensures.among)
