use Rattle.std.proofs.Common.{◌≢◌, subst}
use Rattle.feed_disk.specs.Moments.{LeavesAlone}
use Rattle.feed_disk.specs.declared.area.Area.{Area}
use Rattle.feed_journal.specs.Log.{LogValue}
use Rattle.feed_journal.proofs.log.Log.cut.Goals as goal

pub returns-in_err-cut-clause-others : goal.returns-in_err-cut-clause-others
returns-in_err-cut-clause-others g c =
    subst (λ (v : LogValue). (a : Area) → a ≢ v.area
    → LeavesAlone (g.D.Disk.state c.args.disk.now) (g.D.Disk.state c.cut.new.disk) a) c.self.view_is c.cut.ensures.others

pub returns-clause-others : goal.returns-clause-others
returns-clause-others g c =
    subst (λ (v : LogValue). (a : Area) → a ≢ v.area
    → LeavesAlone (g.D.Disk.state c.args.disk.now) (g.D.Disk.state c.cut.new.disk) a) c.self.view_is c.cut.ensures.others
