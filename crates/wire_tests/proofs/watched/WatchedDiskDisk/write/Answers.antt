use Rattle.std.proofs.Common.{arith, false}
use Rattle.feed_disk.proofs.FileLemmas.{passes_torn}
use Rattle.wire_tests.proofs.watched.WatchedDiskDisk.write.Goals as goal

pub returns-in-Ok-clause-area : goal.returns-in-Ok-clause-area
returns-in-Ok-clause-area c =
    passes_torn
    (record {
      clock = c.args.self.now.clock;
      faults = c.args.self.now.faults;
      bytes_read = 18446744073709551615;
      sync_failed = false;
    })
    (record {
      clock = c.count.new.self.clock;
      faults = c.count.new.self.faults;
      bytes_read = 18446744073709551615;
      sync_failed = false;
    })
    c.args.area c.args.at _ c.count.ensures.clock c.count.ensures.later

pub returns-in-Err-clause-area : goal.returns-in-Err-clause-area
returns-in-Err-clause-area c =
    passes_torn
    (record {
      clock = c.args.self.now.clock;
      faults = c.args.self.now.faults;
      bytes_read = 18446744073709551615;
      sync_failed = false;
    })
    (record {
      clock = c.fail.new.self.clock;
      faults = c.fail.new.self.faults;
      bytes_read = 18446744073709551615;
      sync_failed = false;
    })
    c.args.area c.args.at _ (omega (arith, c.fail.ensures.clock, c.count.ensures.clock))
    (omega (arith, c.fail.ensures.clock, c.count.ensures.later))
