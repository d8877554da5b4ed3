use Rattle.std.proofs.Common.{◌≤◌, length, ◌≡◌, false}
use Rattle.feed_journal.specs.Log.{payloads_at}
use Rattle.feed_journal.specs.Reading.{IsReading}
use Rattle.feed_journal.specs.Records.{records}
use Rattle.store_tests.proofs.reader.count_same.Given as goal

abbrev pub invariant-loop-index : goal.invariant-loop-index
invariant-loop-index g l = record {
  within : l.index-end ≤ length l.log.extents;
  unspent : l.log.spent ≡ false;
  listed : g.D.Disk.observable → payloads_at l.log.extents ((g.D.Disk.state l.disk).content l.log.area)
      ≡ records ((g.D.Disk.state l.disk).content l.log.area);
  reader_unspent : l.reader.log.spent ≡ false;
  reading : g.D.Disk.observable → IsReading l.reader ((g.D.Disk.state l.disk).content l.reader.log.area);
}
