use Rattle.std.proofs.Common.{arith}
use Rattle.feed_disk.specs.declared.area.Area.TheVariants.{Journal, Sealed, Mirror}
use Rattle.feed_disk.proofs.MomentLemmas.{alone_joins}
use Rattle.feed_recovery.proofs.LoadedLemmas.{journal_sealed, mirror_journal, mirror_sealed, sealed_journal}
use Rattle.store_scrub.proofs.CloseLemmas.{closes-alone, cuts-after, first-after, found-count, keeps-alone, keeps-found}
use Rattle.store_scrub.proofs.repaired.close_areas.Goals as goal

pub returns-in_err-close_journal-clause-sealed : goal.returns-in_err-close_journal-clause-sealed
returns-in_err-close_journal-clause-sealed g c = λ tells.
    keeps-found g.D.Disk.observable (g.D.Disk.state c.args.disk.now) Sealed c.args.seals.now c.args.kept
    c.requires.seals tells c.requires.within (g.D.Disk.state c.close_journal.new.disk)
    (c.close_journal.ensures.others Sealed sealed_journal)

pub returns-in_err-close_journal-clause-mirror : goal.returns-in_err-close_journal-clause-mirror
returns-in_err-close_journal-clause-mirror g c = c.close_journal.ensures.others Mirror mirror_journal

pub returns-in_err-cut_seals-clause-journal : goal.returns-in_err-cut_seals-clause-journal
returns-in_err-cut_seals-clause-journal g c = λ tells.
    keeps-alone (g.D.Disk.state c.args.disk.now) (g.D.Disk.state c.close_journal.new.disk)
    (g.D.Disk.state c.cut_seals.new.disk) Journal (c.close_journal.ensures.moments tells)
    (c.cut_seals.ensures.others Journal journal_sealed)

pub returns-in_err-cut_seals-clause-sealed : goal.returns-in_err-cut_seals-clause-sealed
returns-in_err-cut_seals-clause-sealed g c = λ tells.
    let s = g.D.Disk.state c.args.disk.now in
    first-after s (g.D.Disk.state c.close_journal.new.disk) (g.D.Disk.state c.cut_seals.new.disk) Sealed c.args.kept
    (c.close_journal.ensures.others Sealed sealed_journal)
    (omega (
      arith,
      c.requires.within,
      found-count g.D.Disk.observable s Sealed c.args.seals.now c.args.kept c.requires.seals tells,
    ))
    (c.cut_seals.ensures.moments tells)

pub returns-in_err-cut_seals-clause-mirror : goal.returns-in_err-cut_seals-clause-mirror
returns-in_err-cut_seals-clause-mirror g c =
    alone_joins (g.D.Disk.state c.args.disk.now) (g.D.Disk.state c.close_journal.new.disk)
    (g.D.Disk.state c.cut_seals.new.disk) Mirror (c.close_journal.ensures.others Mirror mirror_journal)
    (c.cut_seals.ensures.others Mirror mirror_sealed)

pub returns-clause-closes : goal.returns-clause-closes
returns-clause-closes g c = λ tells.
    closes-alone (g.D.Disk.state c.args.disk.now) (g.D.Disk.state c.close_journal.new.disk)
    (g.D.Disk.state c.cut_seals.new.disk) Journal (c.in_ok-close_journal.ensures.closes tells)
    (c.cut_seals.ensures.others Journal journal_sealed)

pub returns-clause-cuts : goal.returns-clause-cuts
returns-clause-cuts g c = λ tells.
    cuts-after (g.D.Disk.state c.args.disk.now) (g.D.Disk.state c.close_journal.new.disk)
    (g.D.Disk.state c.cut_seals.new.disk) Sealed c.args.kept (c.close_journal.ensures.others Sealed sealed_journal)
    (c.in_ok-cut_seals.ensures.cuts tells)

pub returns-clause-journal : goal.returns-clause-journal
returns-clause-journal g c = λ tells.
    keeps-alone (g.D.Disk.state c.args.disk.now) (g.D.Disk.state c.close_journal.new.disk)
    (g.D.Disk.state c.cut_seals.new.disk) Journal (c.close_journal.ensures.moments tells)
    (c.cut_seals.ensures.others Journal journal_sealed)

pub returns-clause-sealed : goal.returns-clause-sealed
returns-clause-sealed g c = λ tells.
    let s = g.D.Disk.state c.args.disk.now in
    first-after s (g.D.Disk.state c.close_journal.new.disk) (g.D.Disk.state c.cut_seals.new.disk) Sealed c.args.kept
    (c.close_journal.ensures.others Sealed sealed_journal)
    (omega (
      arith,
      c.requires.within,
      found-count g.D.Disk.observable s Sealed c.args.seals.now c.args.kept c.requires.seals tells,
    ))
    (c.cut_seals.ensures.moments tells)

pub returns-clause-mirror : goal.returns-clause-mirror
returns-clause-mirror g c =
    alone_joins (g.D.Disk.state c.args.disk.now) (g.D.Disk.state c.close_journal.new.disk)
    (g.D.Disk.state c.cut_seals.new.disk) Mirror (c.close_journal.ensures.others Mirror mirror_journal)
    (c.cut_seals.ensures.others Mirror mirror_sealed)
