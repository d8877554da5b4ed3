use Rattle.std.proofs.Common.{◌≡◌, inl, inr, ⊎_elim, true, false, refl, sym, ◌∙◌, ap, subst}
use Rattle.feed_disk.specs.declared.area.Area.TheVariants.{Journal, Sealed, Mirror}
use Rattle.feed_disk.proofs.MomentLemmas.{alone_joins}
use Rattle.feed_journal.specs.Records.{records, IsWhole, StandsFor}
use Rattle.feed_recovery.proofs.InitLemmas.{no_payload, some_payload}
use Rattle.feed_recovery.proofs.LoadedLemmas.{alone_stands, begins_still, journal_sealed, mirror_journal, mirror_sealed}
use Rattle.feed_recovery.proofs.LoadedLemmas.{sealed_journal, stands_after, stands_before}
use Rattle.feed_recovery.proofs.init.unused_journal.Given.{Over}
use Rattle.feed_recovery.proofs.init.unused_journal.Goals as goal
use Rattle.feed_recovery.proofs.init.unused_journal.Goals.{After-load-2}
use Rattle.feed_disk.specs.Moments.{AlwaysLeaves, LeavesAlone}

never : false ≡ true → ⊥
never is = cc

pub returns-in_err-journal-clause-seals : goal.returns-in_err-journal-clause-seals
returns-in_err-journal-clause-seals g c = λ tells.
    alone_stands (g.D.Disk.state c.args.disk.now) (g.D.Disk.state c.load.new.disk) Sealed
    (c.load.ensures.others Sealed sealed_journal)

pub returns-in_err-journal-clause-mirror : goal.returns-in_err-journal-clause-mirror
returns-in_err-journal-clause-mirror g c = c.load.ensures.others Mirror mirror_journal

mirror : (g : Over) (c : After-load-2 g)
    → LeavesAlone (g.D.Disk.state c.args.disk.now) (g.D.Disk.state c.load-2.new.disk) Mirror
mirror g c =
    alone_joins (g.D.Disk.state c.args.disk.now) (g.D.Disk.state c.load.new.disk) (g.D.Disk.state c.load-2.new.disk)
    Mirror (c.load.ensures.others Mirror mirror_journal) (c.load-2.ensures.others Mirror mirror_sealed)

seals : (g : Over) (c : After-load-2 g) → g.D.Disk.observable
    → AlwaysLeaves (g.D.Disk.state c.args.disk.now) (g.D.Disk.state c.load-2.new.disk) Sealed
    (StandsFor ((g.D.Disk.state c.args.disk.now).image_now Sealed))
seals g c tells =
    stands_after (g.D.Disk.state c.args.disk.now) (g.D.Disk.state c.load.new.disk) (g.D.Disk.state c.load-2.new.disk)
    Sealed (c.load.ensures.others Sealed sealed_journal) (c.load-2.ensures.moments tells)

journal : (g : Over) (c : After-load-2 g) → g.D.Disk.observable
    → AlwaysLeaves (g.D.Disk.state c.args.disk.now) (g.D.Disk.state c.load-2.new.disk) Journal
    (StandsFor ((g.D.Disk.state c.args.disk.now).image_now Journal))
journal g c tells =
    stands_before (g.D.Disk.state c.args.disk.now) (g.D.Disk.state c.load.new.disk)
    (g.D.Disk.state c.load-2.new.disk) Journal (c.load.ensures.moments tells)
    (c.load-2.ensures.others Journal journal_sealed)

pub returns-in_err-seals-clause-journal : goal.returns-in_err-seals-clause-journal
returns-in_err-seals-clause-journal g c = journal g (goal.at.returns-in_err-seals-clause-journal g c).After-load-2

pub returns-in_err-seals-clause-seals : goal.returns-in_err-seals-clause-seals
returns-in_err-seals-clause-seals g c = seals g (goal.at.returns-in_err-seals-clause-seals g c).After-load-2

pub returns-in_err-seals-clause-mirror : goal.returns-in_err-seals-clause-mirror
returns-in_err-seals-clause-mirror g c = mirror g (goal.at.returns-in_err-seals-clause-mirror g c).After-load-2

pub returns-then-has_payload-clause-already : goal.returns-then-has_payload-clause-already
returns-then-has_payload-clause-already g c = λ is tells.
    let m = g.D.Disk.state c.load.new.disk in
    let t = g.D.Disk.state c.load-2.new.disk in
    let alone = c.load.ensures.others Sealed sealed_journal in
    ⊎_elim (λ some. inl (λ none. some_payload c.in_ok-journal.journal (m.content Journal)
    (c.in_ok-journal.ensures.listed tells) some (c.in_ok-journal.ensures.same tells ∙ none)))
    (λ some. inr (λ none. some_payload c.in_ok-seals.seals (t.content Sealed) (c.in_ok-seals.ensures.listed tells)
    some (c.in_ok-seals.ensures.same tells ∙ ap records alone.content ∙ none))) (c.if-has_payload.ensures.0 refl)

pub returns-clause-unused : goal.returns-clause-unused
returns-clause-unused g c = λ tells.
    let m = g.D.Disk.state c.load.new.disk in
    let t = g.D.Disk.state c.load-2.new.disk in
    let alone = c.load.ensures.others Sealed sealed_journal in
    record {
      journal = sym (c.in_ok-journal.ensures.same tells)
          ∙ no_payload c.in_ok-journal.journal (m.content Journal) (c.in_ok-journal.ensures.listed tells)
          (λ some. never (c.if-has_payload.ensures.1 (inl some)));
      sealed = sym (ap records alone.content) ∙ sym (c.in_ok-seals.ensures.same tells)
          ∙ no_payload c.in_ok-seals.seals (t.content Sealed) (c.in_ok-seals.ensures.listed tells)
          (λ some. never (c.if-has_payload.ensures.1 (inr some)));
    }

pub returns-clause-same : goal.returns-clause-same
returns-clause-same g c = λ tells.
    let m = g.D.Disk.state c.load.new.disk in
    let t = g.D.Disk.state c.load-2.new.disk in
    let alone = c.load-2.ensures.others Journal journal_sealed in
    record {
      journal = ap records alone.content
          ∙ no_payload c.in_ok-journal.journal (m.content Journal) (c.in_ok-journal.ensures.listed tells)
          (λ some. never (c.if-has_payload.ensures.1 (inl some)));
      sealed = no_payload c.in_ok-seals.seals (t.content Sealed) (c.in_ok-seals.ensures.listed tells)
          (λ some. never (c.if-has_payload.ensures.1 (inr some)));
    }

pub returns-then-has_payload-clause-journal : goal.returns-then-has_payload-clause-journal
returns-then-has_payload-clause-journal g c =
    journal g (goal.at.returns-then-has_payload-clause-journal g c).After-load-2

pub returns-then-has_payload-clause-seals : goal.returns-then-has_payload-clause-seals
returns-then-has_payload-clause-seals g c = seals g (goal.at.returns-then-has_payload-clause-seals g c).After-load-2

pub returns-then-has_payload-clause-mirror : goal.returns-then-has_payload-clause-mirror
returns-then-has_payload-clause-mirror g c = mirror g (goal.at.returns-then-has_payload-clause-mirror g c).After-load-2

pub returns-in_err-reserve-clause-journal : goal.returns-in_err-reserve-clause-journal
returns-in_err-reserve-clause-journal g c = journal g (goal.at.returns-in_err-reserve-clause-journal g c).After-load-2

pub returns-in_err-reserve-clause-seals : goal.returns-in_err-reserve-clause-seals
returns-in_err-reserve-clause-seals g c = seals g (goal.at.returns-in_err-reserve-clause-seals g c).After-load-2

pub returns-in_err-reserve-clause-mirror : goal.returns-in_err-reserve-clause-mirror
returns-in_err-reserve-clause-mirror g c = mirror g (goal.at.returns-in_err-reserve-clause-mirror g c).After-load-2

pub returns-clause-journal : goal.returns-clause-journal
returns-clause-journal g c = journal g (goal.at.returns-clause-journal g c).After-load-2

pub returns-clause-seals : goal.returns-clause-seals
returns-clause-seals g c = seals g (goal.at.returns-clause-seals g c).After-load-2

pub returns-clause-rests : goal.returns-clause-rests
returns-clause-rests g c = λ tells whole.
    let s = g.D.Disk.state c.args.disk.now in
    let m = g.D.Disk.state c.load.new.disk in
    let t = g.D.Disk.state c.load-2.new.disk in
    record {
      journal = begins_still m t Journal (c.load-2.ensures.others Journal journal_sealed)
          (c.in_ok-journal.ensures.rests tells whole.journal);
      sealed = c.in_ok-seals.ensures.rests tells
          (subst IsWhole (sym (c.load.ensures.others Sealed sealed_journal).content) whole.sealed);
    }

pub returns-clause-mirror : goal.returns-clause-mirror
returns-clause-mirror g c = mirror g (goal.at.returns-clause-mirror g c).After-load-2
