use Rattle.std.proofs.Common.{arith}
use Rattle.feed_disk.proofs.MomentLemmas.{alone_joins}
use Rattle.store_scrub.proofs.repaired.survey_areas.Goals as goal

pub returns-in-Ok-clause-reads : goal.returns-in-Ok-clause-reads
returns-in-Ok-clause-reads g c =
    let s = g.D.Disk.state c.args.disk.now in
    let l = g.D.Disk.state c.look.new.disk in
    let m = g.D.Disk.state c.look-2.new.disk in
    let reads = c.survey_logs.ensures.reads in
    record {
      areas = λ a. alone_joins s m (g.D.Disk.state c.survey_logs.new.disk) a
          (alone_joins s l m a (c.look.ensures.areas a) (c.look-2.ensures.areas a)) (reads.areas a);
      later = omega (arith, c.look.ensures.faults.later, c.look-2.ensures.faults.later, reads.later);
    }

pub returns-in-Err-clause-reads : goal.returns-in-Err-clause-reads
returns-in-Err-clause-reads g c =
    record {
      areas = λ a. alone_joins (g.D.Disk.state c.args.disk.now) (g.D.Disk.state c.look.new.disk)
          (g.D.Disk.state c.look-2.new.disk) a (c.look.ensures.areas a) (c.look-2.ensures.areas a);
      later = omega (arith, c.look.ensures.faults.later, c.look-2.ensures.faults.later);
    }
