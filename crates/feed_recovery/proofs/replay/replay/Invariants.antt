use Rattle.std.proofs.Common.{◌≡◌, ◌-◌, length, take}
use Rattle.std.specs.Prelude.{IfSome}
use Rattle.feed_disk.specs.declared.area.Area.TheVariants.{Journal, Sealed}
use Rattle.feed_journal.specs.Records.{records}
use Rattle.feed_recovery.specs.Loading.{AreCompared, HasReplayed, IsReader, IsSealOf, LogsHistory, OnlyReads, WorkedBoth}
use Rattle.feed_recovery.specs.Opening.{journal_of}
use Rattle.feed_recovery.proofs.replay.replay.Given as goal

abbrev pub invariant-frames : goal.invariant-frames
invariant-frames g l = record {
  worked : WorkedBoth (g.D.Disk.state l.fn.disk) (g.D.Disk.state l.disk) l.fn.reader l.reader l.fn.seals l.seals;
  reads : OnlyReads (g.D.Disk.state l.fn.disk) (g.D.Disk.state l.disk);
  reader : IsReader g.D.Disk.observable (g.D.Disk.state l.disk) l.reader;
  replayed : HasReplayed l.head l.progress.members l.progress.window;
  logs : LogsHistory l.reader.log l.progress.window.history l.progress.places.extents;
  payloads : g.D.Disk.observable
      → take (length l.reader.log.extents) (records ((g.D.Disk.state l.fn.disk).content Journal))
      ≡ journal_of l.head l.progress.window.history;
  compared : g.D.Disk.observable
      → AreCompared l.head l.progress.window.history (records ((g.D.Disk.state l.fn.disk).content Sealed))
      l.progress.wrong;
  wrong : IfSome l.progress.wrong (IsSealOf l.fn.seals.extents);
}

abbrev pub decreases-frames : goal.decreases-frames
decreases-frames g l = l.reader.limit - l.reader.log.size
