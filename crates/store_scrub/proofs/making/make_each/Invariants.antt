use Rattle.std.proofs.Common.{◌≡◌, ◌≢◌, ◌-◌}
use Rattle.feed_disk.specs.Moments.{LeavesAlone}
use Rattle.feed_disk.specs.declared.area.Area.{Area}
use Rattle.feed_disk.specs.declared.area.Area.TheVariants.{Sealed}
use Rattle.store_scrub.specs.Making.{KeepsSeals}
use Rattle.store_scrub.specs.Steps.{IsMaking, MakesTo}
use Rattle.store_scrub.proofs.making.make_each.Given as goal

abbrev pub invariant-frames : goal.invariant-frames
invariant-frames g l = record {
  making : IsMaking g.D.Disk.observable (g.D.Disk.state l.disk) l.reader l.seals l.head l.window;
  others : (a : Area) → a ≢ Sealed → LeavesAlone (g.D.Disk.state l.fn.disk) (g.D.Disk.state l.disk) a;
  faults : (g.D.Disk.state l.disk).faults ≡ (g.D.Disk.state l.fn.disk).faults;
  made : g.D.Disk.observable
      → MakesTo (g.D.Disk.state l.fn.disk) (g.D.Disk.state l.disk) l.head l.window.history;
  keeps : g.D.Disk.observable → KeepsSeals (g.D.Disk.state l.fn.disk) (g.D.Disk.state l.disk);
}

abbrev pub decreases-frames : goal.decreases-frames
decreases-frames g l = l.reader.limit - l.reader.log.size
