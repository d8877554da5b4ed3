use Rattle.std.proofs.Common.{◌≡◌, length, take, map, false}
use Rattle.feed_disk.specs.declared.area.Area.TheVariants.{Mirror as MirrorArea}
use Rattle.feed_journal.specs.Log.{payload_lengths}
use Rattle.feed_journal.specs.Records.{records}
use Rattle.mirror_walk.specs.Holding.{payloads_of}
use Rattle.mirror_walk.specs.Loaded.{IsLoadedOf}
use Rattle.mirror_walk.specs.Loading.{OnlyReads, Worked}
use Rattle.mirror_walk.proofs.load.held_of.Given as goal

abbrev pub invariant-loop-index : goal.invariant-loop-index
invariant-loop-index g l = record {
  base : l.held.base ≡ l.fn.base;
  unlisted : l.held.listed ≡ false;
  count : length l.held.kept ≡ l.index;
  loaded : IsLoadedOf l.fn.base (payloads_of l.held.kept) l.held.kept;
  lengths : take l.index (payload_lengths l.fn.log.extents) ≡ map length (payloads_of l.held.kept);
  payloads : g.D.Disk.observable → take l.index (records ((g.D.Disk.state l.fn.disk).content MirrorArea))
      ≡ payloads_of l.held.kept;
  worked : Worked (g.D.Disk.state l.fn.disk) (g.D.Disk.state l.disk) l.fn.log l.log;
  reads : OnlyReads (g.D.Disk.state l.fn.disk) (g.D.Disk.state l.disk);
}
