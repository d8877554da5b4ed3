use Rattle.std.proofs.Common.{Err, List, ℕ, ap, sym, subst, ◌∙◌}
use Rattle.std.proofs.lemmas.Result.{err_from_is_err_and}
use Rattle.feed_disk.specs.declared.area.Area.TheVariants.{Mirror as MirrorArea}
use Rattle.feed_disk.proofs.MomentLemmas.{alone_joins, alone_leaves, always_joins}
use Rattle.feed_journal.specs.Records.{Begins, records}
use Rattle.feed_journal.specs.declared.fault.LogFault.{LogFault}
use Rattle.mirror_walk.specs.Loaded.{IsMirrorFault}
use Rattle.mirror_walk.proofs.LoadLemmas.{loads-without}
use Rattle.mirror_walk.proofs.RefusedLemmas.{log-refused}
use Rattle.mirror_walk.proofs.mirror.Mirror.load.Goals as goal

pub returns-in_err-log-clause-refusal : goal.returns-in_err-log-clause-refusal
returns-in_err-log-clause-refusal g c =
    let returned = err_from_is_err_and c.from_residual.result c.from_residual.ensures.1 in
    rw (returned.1, returned.2) (log-refused c.args.base c.in_err-log.field-0.0
    (λ n is. c.in_err-log.ensures.unchanged n (ap (λ (f : LogFault). Err f) is)))

pub returns-in_err-mirror-clause-only : goal.returns-in_err-mirror-clause-only
returns-in_err-mirror-clause-only g c = λ tells kept loaded.
    let fault = c.in_err-mirror.field-0.0 in
    let cause = subst (λ (l : List (List ℕ)). IsMirrorFault c.args.base l fault)
    (c.in_ok-log.ensures.same tells)
    (c.in_err-mirror.ensures.fault.cause tells) in
    let returned = err_from_is_err_and c.from_residual-in_err-mirror.result
    c.from_residual-in_err-mirror.ensures.1 in
    rw (returned.1, returned.2)
    (loads-without c.args.base (records ((g.D.Disk.state c.args.disk.now).content MirrorArea)) kept loaded
    fault cause)

pub returns-in_err-mirror-clause-others : goal.returns-in_err-mirror-clause-others
returns-in_err-mirror-clause-others g c = λ a other. alone_joins (g.D.Disk.state c.args.disk.now)
    (g.D.Disk.state c.load.new.disk) (g.D.Disk.state c.reopen.new.disk) a (c.load.ensures.others a other)
    (c.reopen.ensures.reads.areas a)

pub returns-clause-others : goal.returns-clause-others
returns-clause-others g c = λ a other. alone_joins (g.D.Disk.state c.args.disk.now)
    (g.D.Disk.state c.load.new.disk) (g.D.Disk.state c.reopen.new.disk) a (c.load.ensures.others a other)
    (c.reopen.ensures.reads.areas a)

pub returns-clause-moments : goal.returns-clause-moments
returns-clause-moments g c = λ tells.
    let loading = c.load.ensures.moments tells in
    always_joins (g.D.Disk.state c.args.disk.now) (g.D.Disk.state c.load.new.disk) (g.D.Disk.state c.reopen.new.disk)
    MirrorArea _ loading
    (alone_leaves (g.D.Disk.state c.load.new.disk) (g.D.Disk.state c.reopen.new.disk) MirrorArea _ loading.now
    (c.reopen.ensures.reads.areas MirrorArea))

pub returns-clause-rests : goal.returns-clause-rests
returns-clause-rests g c = λ tells whole image now.
    let area = c.reopen.ensures.reads.areas MirrorArea in
    let payloads = sym (ap records area.content) ∙ (c.in_ok-mirror.ensures.stands tells).payloads in
    subst (λ (l : List (List ℕ)). Begins l image) payloads
    (c.in_ok-log.ensures.rests tells whole image (area.now image now))
