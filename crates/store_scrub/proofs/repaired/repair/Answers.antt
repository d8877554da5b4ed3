use Rattle.std.proofs.Common.{◌≡◌, ◌-◌, List, ℕ, refl, sym, subst}
use Rattle.std.proofs.lemmas.Result.{IfErr-at_err, IfErr-weaker, err_from_is_err_and, on_ok_weaker}
use Rattle.feed_disk.specs.declared.area.Area.TheVariants.{Journal, Sealed}
use Rattle.feed_journal.specs.Records.{records}
use Rattle.store_scrub.specs.Rebuild.{Rebuilds, StopsBy}
use Rattle.store_scrub.specs.Repair.{IsRepaired, IsRepairFault}
use Rattle.store_scrub.specs.Survey.{IsSurveyFault}
use Rattle.store_scrub.specs.declared.fault.RepairFault.TheVariants.{NotInit, BadRecord, Full}
use Rattle.store_scrub.proofs.JournalLemmas.{survey-only}
use Rattle.store_scrub.proofs.RepairLemmas.{both-ok, err-only, is-repaired, rebuild-full, rebuild-only, rebuild-refused}
use Rattle.store_scrub.proofs.RepairLemmas.{repairs-safely, settles-store}
use Rattle.store_scrub.proofs.repaired.repair.Goals as goal

pub returns-in_err-survey-clause-only : goal.returns-in_err-survey-clause-only
returns-in_err-survey-clause-only g c = λ tells head history is.
    let s = g.D.Disk.state c.args.disk.now in
    let fault = c.in_err-survey.field-0.0 in
    let cause = subst (λ (l : List ℕ). IsSurveyFault (records l) fault)
    (c.in_ok-sync_areas.ensures.synced tells).journal_content (c.in_err-survey.ensures.refused tells) in
    let returned = err_from_is_err_and c.from_residual-in_err-survey.result
    c.from_residual-in_err-survey.ensures.1 in
    rw (returned.1, returned.2)
    (err-only fault (survey-only (records (s.content Journal)) head history fault is cause))

pub returns-clause-repaired : goal.returns-clause-repaired
returns-clause-repaired g c =
    let s = g.D.Disk.state c.args.disk.now in
    let t = g.D.Disk.state c.survey_areas.new.disk in
    let u = g.D.Disk.state c.rebuild.new.disk in
    let survey = c.in_ok-survey.survey in
    both-ok c.rebuild.result
    (λ found. (found.kept ≡ survey.kept) × (found.made ≡ survey.sealed - survey.kept))
    (g.D.Disk.observable → Rebuilds t u survey.kept)
    (λ found. g.D.Disk.observable
    → IsRepaired (records (s.content Journal)) (records (s.content Sealed)) found.kept found.made)
    (λ found numbers rebuilds tells.
    subst (λ (n : ℕ). IsRepaired (records (s.content Journal)) (records (s.content Sealed)) n found.made) (sym numbers.0)
    (is-repaired s (g.D.Disk.state c.sync_areas.new.disk) t c.sync_areas.ensures.journal c.sync_areas.ensures.sealed
    c.survey_areas.ensures.reads (c.in_ok-sync_areas.ensures.synced tells) survey.kept survey.sealed
    (c.in_ok-survey.ensures.found tells) u (rebuilds tells) found.made numbers.1))
    c.rebuild.ensures.numbers c.rebuild.ensures.rebuilt

pub returns-clause-settles : goal.returns-clause-settles
returns-clause-settles g c =
    let s = g.D.Disk.state c.args.disk.now in
    let survey = c.in_ok-survey.survey in
    on_ok_weaker c.rebuild.result (λ rebuilds tells.
    settles-store s (g.D.Disk.state c.sync_areas.new.disk) (g.D.Disk.state c.survey_areas.new.disk)
    c.sync_areas.ensures.journal c.sync_areas.ensures.sealed c.survey_areas.ensures.reads
    (c.in_ok-sync_areas.ensures.synced tells) survey.kept survey.sealed (c.in_ok-survey.ensures.found tells)
    (g.D.Disk.state c.rebuild.new.disk) c.begun_images_are_whole.ensures (rebuilds tells)) c.rebuild.ensures.rebuilt

pub returns-clause-refused : goal.returns-clause-refused
returns-clause-refused g c =
    let s = g.D.Disk.state c.args.disk.now in
    let t = g.D.Disk.state c.survey_areas.new.disk in
    let u = g.D.Disk.state c.rebuild.new.disk in
    let survey = c.in_ok-survey.survey in
    IfErr-weaker c.rebuild.result (λ fault. g.D.Disk.observable → StopsBy t u survey.kept fault)
    (λ fault. g.D.Disk.observable → IsRepairFault (records (s.content Journal)) (records (s.content Sealed)) fault)
    (λ fault stops tells.
    rebuild-refused s (g.D.Disk.state c.sync_areas.new.disk) t c.sync_areas.ensures.journal c.sync_areas.ensures.sealed
    c.survey_areas.ensures.reads (c.in_ok-sync_areas.ensures.synced tells) survey.kept survey.sealed
    (c.in_ok-survey.ensures.found tells) u fault (stops tells)) c.rebuild.ensures.refused

pub returns-clause-full : goal.returns-clause-full
returns-clause-full g c = λ size needed capacity is tells.
    let t = g.D.Disk.state c.survey_areas.new.disk in
    let u = g.D.Disk.state c.rebuild.new.disk in
    let survey = c.in_ok-survey.survey in
    rebuild-full (g.D.Disk.state c.args.disk.now) (g.D.Disk.state c.sync_areas.new.disk) t
    c.sync_areas.ensures.journal c.sync_areas.ensures.sealed c.survey_areas.ensures.reads
    (c.in_ok-sync_areas.ensures.synced tells) survey.kept survey.sealed (c.in_ok-survey.ensures.found tells) u
    (Full size needed capacity)
    (IfErr-at_err (λ fault. g.D.Disk.observable → StopsBy t u survey.kept fault) is c.rebuild.ensures.refused tells)
    size needed capacity refl

pub returns-clause-unwritten : goal.returns-clause-unwritten
returns-clause-unwritten g c = λ tells.
    let s = g.D.Disk.state c.args.disk.now in
    let m = g.D.Disk.state c.sync_areas.new.disk in
    let t = g.D.Disk.state c.survey_areas.new.disk in
    let u = g.D.Disk.state c.rebuild.new.disk in
    let survey = c.in_ok-survey.survey in (
      λ is. absurd ((rebuild-only s m t c.sync_areas.ensures.journal c.sync_areas.ensures.sealed
          c.survey_areas.ensures.reads (c.in_ok-sync_areas.ensures.synced tells) survey.kept survey.sealed
          (c.in_ok-survey.ensures.found tells) u NotInit
          (IfErr-at_err (λ fault. g.D.Disk.observable → StopsBy t u survey.kept fault) is c.rebuild.ensures.refused
          tells)).0 refl),
      λ area index at is. absurd ((rebuild-only s m t c.sync_areas.ensures.journal c.sync_areas.ensures.sealed
          c.survey_areas.ensures.reads (c.in_ok-sync_areas.ensures.synced tells) survey.kept survey.sealed
          (c.in_ok-survey.ensures.found tells) u (BadRecord area index at)
          (IfErr-at_err (λ fault. g.D.Disk.observable → StopsBy t u survey.kept fault) is c.rebuild.ensures.refused
          tells)).1 area index at refl),
    )

pub returns-clause-moments : goal.returns-clause-moments
returns-clause-moments g c = λ tells.
    let survey = c.in_ok-survey.survey in
    repairs-safely (g.D.Disk.state c.args.disk.now) (g.D.Disk.state c.sync_areas.new.disk)
    (g.D.Disk.state c.survey_areas.new.disk) c.sync_areas.ensures.journal c.sync_areas.ensures.sealed
    c.survey_areas.ensures.reads (c.in_ok-sync_areas.ensures.synced tells) survey.kept survey.sealed
    (c.in_ok-survey.ensures.found tells) (g.D.Disk.state c.rebuild.new.disk)
    (g.met.D.Disk.is_disk c.args.disk.now) tells (c.rebuild.ensures.moments tells)
