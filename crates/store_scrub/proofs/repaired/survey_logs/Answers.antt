use Rattle.std.proofs.Common.{length, sym, ◌∙◌, ap}
use Rattle.feed_disk.specs.declared.area.Area.TheVariants.{Sealed}
use Rattle.feed_journal.specs.Log.{LogValue}
use Rattle.feed_recovery.proofs.ReadingLemmas.{listed-count}
use Rattle.store_scrub.proofs.SurveyLemmas.{has-survey, surveyed-journal, surveyed-later}
use Rattle.store_scrub.proofs.repaired.survey_logs.Goals as goal

pub returns-clause-journal : goal.returns-clause-journal
returns-clause-journal g c =
    let ok = c.in-Ok.ensures in
    surveyed-journal g.D.Disk.observable (g.D.Disk.state c.read.new.disk) c.finish.result c.read.new.reader.log
    c.finish.ensures ok.reader.area ok.reader.unspent ok.logs.rules ok.lists

pub returns-clause-seals : goal.returns-clause-seals
returns-clause-seals g c =
    surveyed-later g.D.Disk.observable (g.D.Disk.state c.args.disk.now) (g.D.Disk.state c.read.new.disk) Sealed
    c.args.seals c.read.new.seals c.requires.seals c.read.ensures.reads c.in-Ok.ensures.worked.seals_log

pub returns-clause-found : goal.returns-clause-found
returns-clause-found g c = λ tells.
    let s = g.D.Disk.state c.args.disk.now in
    let ok = c.in-Ok.ensures in
    has-survey s (g.D.Disk.state c.read.new.disk) c.in-Ok.replayed c.kept_count-kept.result c.sealed-sealed.result c.len.result
    c.read.ensures.reads (ok.journal tells) (ok.compared tells)
    (listed-count c.args.seals (s.content Sealed) (c.requires.seals.readable.list tells)
    ∙ sym (c.len.ensures ∙ ap (λ (l : LogValue). length l.extents) ok.worked.seals_log))
    c.kept_count-kept.ensures.kept c.sealed-sealed.ensures
