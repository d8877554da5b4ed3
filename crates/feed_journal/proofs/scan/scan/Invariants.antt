use Rattle.std.proofs.Common.{◌≡◌, ◌+◌, ◌-◌, ◌*◌, ◌<◌, ◌≤◌, length}
use Rattle.feed_disk.specs.Raised.{raised}
use Rattle.feed_journal.specs.Ahead.{IsAhead, left_from}
use Rattle.feed_journal.specs.Limits.{header_length}
use Rattle.feed_disk.specs.Moments.{LeavesAlone}
use Rattle.feed_disk.specs.declared.area.Area.{Area}
use Rattle.feed_journal.specs.Log.{KeepsLog, MakesSome}
use Rattle.feed_journal.specs.Reading.{AreFirst}
use Rattle.feed_journal.proofs.scan.scan.Given as goal

abbrev pub invariant-frames : goal.invariant-frames
invariant-frames g l = record {
  rules : KeepsLog l.extents.list (l.end + 1);
  same : l.places.items ≡ l.extents.list;
  within : l.end < l.size;
  found : g.D.Disk.observable → AreFirst l.extents.list l.end ((g.D.Disk.state l.fn.disk).content l.area);
  areas : (a : Area) → LeavesAlone (g.D.Disk.state l.fn.disk) (g.D.Disk.state l.disk) a;
  made : MakesSome (g.D.Disk.state l.fn.disk) (g.D.Disk.state l.disk) l.fn.calls l.calls;
  ahead : g.D.Disk.observable → IsAhead l.ahead ((g.D.Disk.state l.fn.disk).content l.area);
  read : raised (g.D.Disk.state l.fn.disk).bytes_read
      (header_length * length l.extents.list + left_from l.end l.ahead)
      ≤ (g.D.Disk.state l.disk).bytes_read;
  faults : (g.D.Disk.state l.disk).faults ≡ (g.D.Disk.state l.fn.disk).faults;
}

abbrev pub decreases-frames : goal.decreases-frames
decreases-frames g l = l.size - l.end
