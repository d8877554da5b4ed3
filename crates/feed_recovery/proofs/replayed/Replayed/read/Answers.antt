use Rattle.std.proofs.Common.{List, ℕ, sym, ◌∙◌, ap, subst}
use Rattle.feed_disk.specs.declared.area.Area.TheVariants.{Journal, Sealed}
use Rattle.feed_journal.specs.Records.{records}
use Rattle.feed_recovery.specs.Loading.{AreCompared}
use Rattle.feed_recovery.proofs.ReadingLemmas.{fails_later, readable_alone, reads_join, worked-after}
use Rattle.feed_recovery.proofs.replayed.Replayed.read.Goals as goal

pub replay-requires-clause-seals : goal.replay-requires-clause-seals
replay-requires-clause-seals g c =
    readable_alone g.D.Disk.observable (g.D.Disk.state c.args.disk.now) (g.D.Disk.state c.head_of.new.disk) Sealed
    c.args.seals.now c.requires.seals c.head_of.ensures.reads

pub returns-in-Ok-clause-journal : goal.returns-in-Ok-clause-journal
returns-in-Ok-clause-journal g c = λ tells.
    let ok = c.in-Ok.ensures in
    record {
      is_head = ok.replayed.is_head;
      lawful = ok.replayed.lawful;
      is = ap records (sym (c.head_of.ensures.reads.areas Journal).content) ∙ ok.payloads tells;
    }

pub returns-in-Ok-clause-compared : goal.returns-in-Ok-clause-compared
returns-in-Ok-clause-compared g c = λ tells.
    let progress = c.in-Ok.progress in
    subst (λ (l : List ℕ). AreCompared c.in_ok-head.head progress.window.history (records l) progress.wrong)
    (c.head_of.ensures.reads.areas Sealed).content (c.in-Ok.ensures.compared tells)

pub returns-in-Ok-clause-worked : goal.returns-in-Ok-clause-worked
returns-in-Ok-clause-worked g c =
    worked-after (g.D.Disk.state c.args.disk.now) (g.D.Disk.state c.head_of.new.disk) (g.D.Disk.state c.replay.new.disk)
    c.args.reader.now c.head_of.new.reader c.replay.new.reader c.args.seals.now c.replay.new.seals
    c.in_ok-head.ensures.worked c.in-Ok.ensures.worked

pub returns-in-Ok-clause-reads : goal.returns-in-Ok-clause-reads
returns-in-Ok-clause-reads g c = reads_join (g.D.Disk.state c.args.disk.now) (g.D.Disk.state c.head_of.new.disk)
    (g.D.Disk.state c.replay.new.disk) c.head_of.ensures.reads c.replay.ensures.reads

pub returns-in-Err-clause-reads : goal.returns-in-Err-clause-reads
returns-in-Err-clause-reads g c = reads_join (g.D.Disk.state c.args.disk.now) (g.D.Disk.state c.head_of.new.disk)
    (g.D.Disk.state c.replay.new.disk) c.head_of.ensures.reads c.replay.ensures.reads

pub returns-in-Err-clause-fault : goal.returns-in-Err-clause-fault
returns-in-Err-clause-fault g c =
    fails_later g.D.Disk.observable (g.D.Disk.state c.args.disk.now) (g.D.Disk.state c.head_of.new.disk)
    (g.D.Disk.state c.replay.new.disk) c.in-Err.fault c.head_of.ensures.reads c.in_ok-head.ensures.worked.faults
    c.in-Err.ensures.fault
