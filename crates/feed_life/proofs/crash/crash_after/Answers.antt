use Rattle.std.proofs.Common.{◌+◌, arith}
use Rattle.feed_life.proofs.CrashLemmas.{crash-last, image-last}
use Rattle.feed_life.proofs.crash.crash_after.Goals as goal

pub returns-in-Ok-clause-image : goal.returns-in-Ok-clause-image
returns-in-Ok-clause-image c =
    image-last c.crash_at.result c.args.disk.now c.size.new.self (c.calls-before.result + 1) c.args.choice.now
    (omega (arith, c.calls-before.ensures)) c.in-Ok.ensures.ok c.crash_at.ensures.image

pub returns-in-Ok-clause-among : goal.returns-in-Ok-clause-among
returns-in-Ok-clause-among c =
    crash-last c.crash_at.result c.args.disk.now c.size.new.self (c.calls-before.result + 1) c.size.ensures.areas
    (omega (arith, c.calls-before.ensures)) c.crash_at.ensures.among
