use Rattle.std.proofs.Common.{ap, subst, sym, ◌∙◌}
use Rattle.mirror_walk.specs.declared.walk.WalkFault.TheVariants.{DiskFault, NoMemory}
use Rattle.mirror_walk.specs.Mirror.{MirrorValue}
use Rattle.mirror_walk.specs.Walk.{WalksByAnswers}
use Rattle.mirror_walk.proofs.GivenWalkLemmas.{seen-moments, seen-served, seen-walked, walks-cut-short, walks-done}
use Rattle.mirror_walk.proofs.GivenWalkLemmas.{walks-fault}
use Rattle.mirror_walk.proofs.PassedLemmas.{err-again, err-of}
use Rattle.mirror_walk.proofs.SoundLemmas.{setting-listed, sound-listed}
use Rattle.mirror_walk.proofs.VisitAnswerLemmas.{ok-works}
use Rattle.mirror_walk.proofs.VisitsLemmas.{counts-again}
use Rattle.mirror_walk.proofs.mirror.Mirror.walk.Goals as goal

pub returns-in_err-tally-clause-by_answers : goal.returns-in_err-tally-clause-by_answers
returns-in_err-tally-clause-by_answers g c =
    let fault = c.in_err-tally.field-0.0 in
    subst (WalksByAnswers g.D.Disk.observable g.F.Fetch.observable (g.D.Disk.state c.args.disk.now)
    (g.D.Disk.state c.visit_all.new.disk) (g.F.Fetch.state c.args.fetch.now)
    (g.F.Fetch.state c.visit_all.new.fetch) c.args.self.now c.visit_all.new.self.kept)
    (sym (err-of c.from_residual.result fault c.from_residual.ensures.1))
    (walks-fault g.D.Disk.observable g.F.Fetch.observable (g.D.Disk.state c.args.disk.now)
    (g.D.Disk.state c.visit_all.new.disk) (g.F.Fetch.state c.args.fetch.now)
    (g.F.Fetch.state c.visit_all.new.fetch) c.args.self.now c.visit_all.new.self.kept fault
    c.in_err-tally.ensures.visited)

pub returns-in_err-tally-clause-walked : goal.returns-in_err-tally-clause-walked
returns-in_err-tally-clause-walked g c =
    seen-walked _ _ _ _ _ _ _ _ _ (returns-in_err-tally-clause-by_answers g c)

pub returns-in_err-tally-clause-moments : goal.returns-in_err-tally-clause-moments
returns-in_err-tally-clause-moments g c =
    seen-moments _ _ _ _ _ _ _ _ _ (returns-in_err-tally-clause-by_answers g c)

pub returns-in_err-outcome-clause-by_answers : goal.returns-in_err-outcome-clause-by_answers
returns-in_err-outcome-clause-by_answers g c =
    subst (WalksByAnswers g.D.Disk.observable g.F.Fetch.observable (g.D.Disk.state c.args.disk.now)
    (g.D.Disk.state c.visit_all.new.disk) (g.F.Fetch.state c.args.fetch.now)
    (g.F.Fetch.state c.visit_all.new.fetch) c.args.self.now c.outcome.new.self.kept)
    (sym (err-of c.from_residual-in_err-outcome.result NoMemory c.from_residual-in_err-outcome.ensures.1))
    (walks-cut-short g.D.Disk.observable g.F.Fetch.observable (g.D.Disk.state c.args.disk.now)
    (g.D.Disk.state c.visit_all.new.disk) (g.F.Fetch.state c.args.fetch.now)
    (g.F.Fetch.state c.visit_all.new.fetch) c.args.self.now c.visit_all.new.self.kept c.in_ok-tally.field-0
    c.in_ok-tally.ensures.visited c.outcome.new.self.kept (ap (λ (m : MirrorValue). m.kept) c.outcome.ensures.same))

pub returns-in_err-outcome-clause-walked : goal.returns-in_err-outcome-clause-walked
returns-in_err-outcome-clause-walked g c =
    seen-walked _ _ _ _ _ _ _ _ _ (returns-in_err-outcome-clause-by_answers g c)

pub returns-in_err-outcome-clause-moments : goal.returns-in_err-outcome-clause-moments
returns-in_err-outcome-clause-moments g c =
    seen-moments _ _ _ _ _ _ _ _ _ (returns-in_err-outcome-clause-by_answers g c)

pub returns-clause-by_answers : goal.returns-clause-by_answers
returns-clause-by_answers g c =
    walks-done g.D.Disk.observable g.F.Fetch.observable (g.D.Disk.state c.args.disk.now)
    (g.D.Disk.state c.visit_all.new.disk) (g.F.Fetch.state c.args.fetch.now)
    (g.F.Fetch.state c.visit_all.new.fetch) c.args.self.now c.visit_all.new.self.kept c.in_ok-tally.field-0
    c.in_ok-tally.ensures.visited c.outcome.new.self.kept (ap (λ (m : MirrorValue). m.kept) c.outcome.ensures.same)
    c.in_ok-outcome.outcome c.in_ok-outcome.ensures.outcome

pub returns-clause-walked : goal.returns-clause-walked
returns-clause-walked g c = seen-walked _ _ _ _ _ _ _ _ _ (returns-clause-by_answers g c)

pub returns-clause-moments : goal.returns-clause-moments
returns-clause-moments g c = seen-moments _ _ _ _ _ _ _ _ _ (returns-clause-by_answers g c)

pub returns-clause-served : goal.returns-clause-served
returns-clause-served g c =
    seen-served g.D.Disk.observable g.F.Fetch.observable (g.D.Disk.state c.args.disk.now)
    (g.D.Disk.state c.visit_all.new.disk) (g.F.Fetch.state c.args.fetch.now)
    (g.F.Fetch.state c.visit_all.new.fetch) c.args.self.now c.visit_all.new.self.kept c.in_ok-tally.field-0
    c.in_ok-tally.ensures.visited

pub returns-in_err-tally-clause-sound : goal.returns-in_err-tally-clause-sound
returns-in_err-tally-clause-sound g c = λ works.
    let fault = c.in_err-tally.field-0.0 in
    c.in_err-tally.ensures.sound (λ e. works (err-of c.from_residual.result fault c.from_residual.ensures.1
    ∙ err-again fault DiskFault e))

pub returns-in_err-tally-clause-faults : goal.returns-in_err-tally-clause-faults
returns-in_err-tally-clause-faults g c = counts-again _ _ _ _ c.from_residual.result c.in_err-tally.field-0.0
    c.from_residual.ensures.1 c.in_err-tally.ensures.faults

pub returns-in_err-outcome-clause-setting : goal.returns-in_err-outcome-clause-setting
returns-in_err-outcome-clause-setting g c =
    setting-listed (g.D.Disk.state c.args.disk.now) (g.D.Disk.state c.visit_all.new.disk) c.args.self.now
    c.visit_all.new.self c.outcome.new.self c.outcome.ensures.same c.visit_all.ensures.setting

pub returns-in_err-outcome-clause-sound : goal.returns-in_err-outcome-clause-sound
returns-in_err-outcome-clause-sound g c = λ works.
    sound-listed (g.D.Disk.state c.args.disk.now) (g.D.Disk.state c.visit_all.new.disk) c.args.self.now
    c.visit_all.new.self c.outcome.new.self c.outcome.ensures.same g.D.Disk.observable
    (c.in_ok-tally.ensures.sound (ok-works _ _))

pub returns-clause-setting : goal.returns-clause-setting
returns-clause-setting g c =
    setting-listed (g.D.Disk.state c.args.disk.now) (g.D.Disk.state c.visit_all.new.disk) c.args.self.now
    c.visit_all.new.self c.outcome.new.self c.outcome.ensures.same c.visit_all.ensures.setting

pub returns-clause-sound : goal.returns-clause-sound
returns-clause-sound g c = λ works.
    sound-listed (g.D.Disk.state c.args.disk.now) (g.D.Disk.state c.visit_all.new.disk) c.args.self.now
    c.visit_all.new.self c.outcome.new.self c.outcome.ensures.same g.D.Disk.observable
    (c.in_ok-tally.ensures.sound (ok-works _ _))
