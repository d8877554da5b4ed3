use Rattle.feed_disk.proofs.MomentLemmas.{alone_joins}
use Rattle.feed_journal.proofs.CallLemmas.{first_half, both_halves, calls_join}
use Rattle.feed_journal.proofs.append.write_frame.Goals as goal

pub returns-in_err-write_and_sync-clause-moments : goal.returns-in_err-write_and_sync-clause-moments
returns-in_err-write_and_sync-clause-moments g c = λ tells is_at few start.
    first_half (g.D.Disk.state c.args.disk.now) (g.D.Disk.state c.write_and_sync.new.disk)
    (g.D.Disk.state c.write_and_sync.new.disk) c.args.area c.args.framed.now c.tail.result.now c.args.size
    c.tail.ensures.tail c.tail.ensures.most is_at few start c.write_and_sync.ensures.moments

pub returns-in_err-write_and_sync-2-clause-moments : goal.returns-in_err-write_and_sync-2-clause-moments
returns-in_err-write_and_sync-2-clause-moments g c = λ tells is_at few start.
    both_halves (g.D.Disk.state c.args.disk.now) (g.D.Disk.state c.write_and_sync.new.disk)
    (g.D.Disk.state c.write_and_sync-2.new.disk) c.args.area c.args.framed.now c.tail.result.now c.args.size
    c.tail.ensures.tail c.tail.ensures.most is_at few start
    (g.met.D.Disk.is_disk c.args.disk.now) tells (c.in_ok-write_and_sync.ensures.content tells)
    (c.in_ok-write_and_sync.ensures.certain tells) c.write_and_sync.ensures.moments
    c.write_and_sync-2.ensures.moments

pub returns-clause-moments : goal.returns-clause-moments
returns-clause-moments g c = λ tells is_at few start.
    both_halves (g.D.Disk.state c.args.disk.now) (g.D.Disk.state c.write_and_sync.new.disk)
    (g.D.Disk.state c.write_and_sync-2.new.disk) c.args.area c.args.framed.now c.tail.result.now c.args.size
    c.tail.ensures.tail c.tail.ensures.most is_at few start
    (g.met.D.Disk.is_disk c.args.disk.now) tells (c.in_ok-write_and_sync.ensures.content tells)
    (c.in_ok-write_and_sync.ensures.certain tells) c.write_and_sync.ensures.moments
    c.write_and_sync-2.ensures.moments

pub returns-in_err-write_and_sync-2-clause-others : goal.returns-in_err-write_and_sync-2-clause-others
returns-in_err-write_and_sync-2-clause-others g c = λ a other.
    alone_joins (g.D.Disk.state c.args.disk.now) (g.D.Disk.state c.write_and_sync.new.disk)
    (g.D.Disk.state c.write_and_sync-2.new.disk) a (c.write_and_sync.ensures.others a other)
    (c.write_and_sync-2.ensures.others a other)

pub returns-clause-others : goal.returns-clause-others
returns-clause-others g c = λ a other.
    alone_joins (g.D.Disk.state c.args.disk.now) (g.D.Disk.state c.write_and_sync.new.disk)
    (g.D.Disk.state c.write_and_sync-2.new.disk) a (c.write_and_sync.ensures.others a other)
    (c.write_and_sync-2.ensures.others a other)

pub returns-in_err-write_and_sync-2-clause-calls : goal.returns-in_err-write_and_sync-2-clause-calls
returns-in_err-write_and_sync-2-clause-calls g c =
    calls_join (g.D.Disk.state c.args.disk.now) (g.D.Disk.state c.write_and_sync.new.disk)
    (g.D.Disk.state c.write_and_sync-2.new.disk) c.args.calls.now c.write_and_sync.new.calls
    c.write_and_sync-2.new.calls 2 2 c.in_ok-write_and_sync.ensures.ok c.write_and_sync-2.ensures.calls

pub returns-clause-calls : goal.returns-clause-calls
returns-clause-calls g c =
    calls_join (g.D.Disk.state c.args.disk.now) (g.D.Disk.state c.write_and_sync.new.disk)
    (g.D.Disk.state c.write_and_sync-2.new.disk) c.args.calls.now c.write_and_sync.new.calls
    c.write_and_sync-2.new.calls 2 2 c.in_ok-write_and_sync.ensures.ok c.write_and_sync-2.ensures.calls
