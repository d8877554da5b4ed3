use Rattle.std.proofs.Common.{arith}
use Rattle.feed_disk.proofs.MomentLemmas.{alone_joins}
use Rattle.feed_journal.proofs.CallLemmas.{calls_join}
use Rattle.feed_journal.proofs.SettleLemmas.{stands_padded}
use Rattle.feed_journal.proofs.settle.settle_area.Goals as goal

pub returns-in_err-write_and_sync-clause-moments : goal.returns-in_err-write_and_sync-clause-moments
returns-in_err-write_and_sync-clause-moments g c = λ tells.
    stands_padded (g.D.Disk.state c.args.disk.now) (g.D.Disk.state c.sync_and_size.new.disk)
    (g.D.Disk.state c.write_and_sync.new.disk) c.args.area c.sync_and_size.ensures.moments
    (c.in_ok-size.ensures.certain tells)
    (omega (arith, c.in_ok-size.ensures.size tells, c.if-size-ge-LEAST_SIZE.false)) c.write_and_sync.ensures.moments

pub returns-in_err-write_and_sync-clause-others : goal.returns-in_err-write_and_sync-clause-others
returns-in_err-write_and_sync-clause-others g c = λ a other.
    alone_joins (g.D.Disk.state c.args.disk.now) (g.D.Disk.state c.sync_and_size.new.disk)
    (g.D.Disk.state c.write_and_sync.new.disk) a (c.sync_and_size.ensures.others a other)
    (c.write_and_sync.ensures.others a other)

pub returns-in_err-write_and_sync-clause-calls : goal.returns-in_err-write_and_sync-clause-calls
returns-in_err-write_and_sync-clause-calls g c =
    calls_join (g.D.Disk.state c.args.disk.now) (g.D.Disk.state c.sync_and_size.new.disk)
    (g.D.Disk.state c.write_and_sync.new.disk) c.args.calls.now c.sync_and_size.new.calls c.write_and_sync.new.calls
    2 2 c.in_ok-size.ensures.ok c.write_and_sync.ensures.calls

pub returns-clause-moments : goal.returns-clause-moments
returns-clause-moments g c = λ tells.
    stands_padded (g.D.Disk.state c.args.disk.now) (g.D.Disk.state c.sync_and_size.new.disk)
    (g.D.Disk.state c.write_and_sync.new.disk) c.args.area c.sync_and_size.ensures.moments
    (c.in_ok-size.ensures.certain tells)
    (omega (arith, c.in_ok-size.ensures.size tells, c.if-size-ge-LEAST_SIZE.false)) c.write_and_sync.ensures.moments

pub returns-clause-others : goal.returns-clause-others
returns-clause-others g c = λ a other.
    alone_joins (g.D.Disk.state c.args.disk.now) (g.D.Disk.state c.sync_and_size.new.disk)
    (g.D.Disk.state c.write_and_sync.new.disk) a (c.sync_and_size.ensures.others a other)
    (c.write_and_sync.ensures.others a other)

pub returns-clause-calls : goal.returns-clause-calls
returns-clause-calls g c =
    calls_join (g.D.Disk.state c.args.disk.now) (g.D.Disk.state c.sync_and_size.new.disk)
    (g.D.Disk.state c.write_and_sync.new.disk) c.args.calls.now c.sync_and_size.new.calls c.write_and_sync.new.calls
    2 2 c.in_ok-size.ensures.ok c.write_and_sync.ensures.calls
