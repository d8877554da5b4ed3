use Rattle.std.proofs.Common.{refl}
use Rattle.feed_disk.proofs.MomentLemmas.{alone_joins}
use Rattle.mirror_commands.proofs.ListingLemmas.{listing-ends, listing-next}
use Rattle.mirror_commands.proofs.report.push_entries.Goals as goal

pub returns-in_err-entry-clause-areas : goal.returns-in_err-entry-clause-areas
returns-in_err-entry-clause-areas g c = λ a.
    alone_joins _ (g.D.Disk.state c.loop-number.disk) _ a (c.loop-number.invariant.areas a)
    (c.in_err-entry.ensures.areas a)

pub returns-in_err-pushed-clause-areas : goal.returns-in_err-pushed-clause-areas
returns-in_err-pushed-clause-areas g c = λ a.
    alone_joins _ (g.D.Disk.state c.loop-number.disk) _ a (c.loop-number.invariant.areas a)
    (c.in_ok-entry.ensures.areas a)

pub loop-number-preserved : goal.loop-number-preserved
loop-number-preserved g c =
    let h = c.loop-number.invariant in
    listing-next g.D.Disk.observable c.args.mirror.now (g.D.Disk.state c.args.disk.now) c.args.out.now.items
    (g.D.Disk.state c.loop-number.disk) c.loop-number.mirror c.loop-number.out.items c.loop-number.after h
    (g.D.Disk.state c.live_entry.new.disk) c.live_entry.new.mirror c.push_entry-pushed.new.out.items c.in-Some.number
    c.in_ok-entry.entry c.in-Some.ensures.found (λ observable. c.in_ok-entry.ensures.entry observable) c.in_ok-pushed.ensures
    (c.in_ok-entry.ensures.kept (λ e. cc)) (c.in_ok-entry.ensures.listed (λ e. cc))
    (c.in_ok-entry.ensures.usable (λ e. cc)) c.in_ok-entry.ensures.areas (c.in_ok-entry.ensures.disk.unfailed (λ e. cc))

pub returns-clause-entries : goal.returns-clause-entries
returns-clause-entries g c = λ observable.
    listing-ends g.D.Disk.observable c.args.mirror.now (g.D.Disk.state c.args.disk.now) c.args.out.now.items
    (g.D.Disk.state c.loop-number.disk) c.loop-number.mirror c.loop-number.out.items c.loop-number.after
    c.loop-number.invariant (c.in_default.ensures.last refl) observable
