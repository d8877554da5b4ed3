use Rattle.std.proofs.Common.{◌≢◌, subst}
use Rattle.feed_disk.specs.Moments.{LeavesAlone}
use Rattle.feed_disk.specs.declared.area.Area.{Area}
use Rattle.feed_journal.specs.Log.{LogValue}
use Rattle.feed_journal.proofs.frames.Frames.write_gate.Goals as goal

pub returns-in-Ok-clause-others : goal.returns-in-Ok-clause-others
returns-in-Ok-clause-others g c =
    subst (λ (v : LogValue). (a : Area) → a ≢ v.area
    → LeavesAlone (g.D.Disk.state c.args.disk.now) (g.D.Disk.state c.write_and_sync-outcome.new.disk) a) c.self.view_is
    c.write_and_sync-outcome.ensures.others

pub returns-in-Err-clause-others : goal.returns-in-Err-clause-others
returns-in-Err-clause-others g c =
    subst (λ (v : LogValue). (a : Area) → a ≢ v.area
    → LeavesAlone (g.D.Disk.state c.args.disk.now) (g.D.Disk.state c.write_and_sync-outcome.new.disk) a) c.self.view_is
    c.write_and_sync-outcome.ensures.others
