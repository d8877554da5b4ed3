use Rattle.feed_life.proofs.CrashLemmas.{crash-made}
use Rattle.feed_life.proofs.crash.crash_at.Goals as goal

pub returns-clause-among : goal.returns-clause-among
returns-clause-among c =
    crash-made c.image.result c.args.disk.now c.args.call c.args.choice.now c.image.ensures.disk c.image.ensures.among
