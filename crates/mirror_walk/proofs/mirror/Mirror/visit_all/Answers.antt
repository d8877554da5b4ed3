use Rattle.std.proofs.Common.{◌≡◌, ◌≢◌, None, Ok, Err, Result, inl, inr, refl, sym, ap}
use Rattle.std.proofs.Common.{subst, ◌∙◌, arith}
use Rattle.chain_links.specs.declared.address.Address.TheVariants.{Feed}
use Rattle.mirror_walk.specs.declared.walk.Visits.{Visits}
use Rattle.mirror_walk.specs.declared.walk.WalkFault.{WalkFault}
use Rattle.mirror_walk.specs.declared.walk.Tally.{Tally}
use Rattle.mirror_walk.specs.declared.walk.Visit.{Visit}
use Rattle.mirror_walk.specs.declared.walk.WalkFault.TheVariants.{DiskFault, FetchFault}
use Rattle.mirror_walk.specs.Visit.{IsVisit, VisitsByAnswers}
use Rattle.mirror_walk.specs.Walk.{IsAnswered, setting_by}
use Rattle.mirror_walk.proofs.GivenLemmas.{HasGone, ended-done, ended-fault, ended-nowhere, ended-refused}
use Rattle.mirror_walk.proofs.GivenLemmas.{goes-further, gone-none}
use Rattle.mirror_walk.proofs.VisitAnswerLemmas.{ok-works}
use Rattle.mirror_walk.proofs.PassedLemmas.{err-again, err-of}
use Rattle.mirror_walk.proofs.SoundLemmas.{setting-begins, setting-joins, sound-begins, sound-joins}
use Rattle.mirror_walk.proofs.VisitLemmas.{GoesOn, asks-some, goes-on}
use Rattle.mirror_walk.proofs.VisitsLemmas.{counted-sums, no-tally, one_asked, sum_of}
use Rattle.mirror_walk.proofs.mirror.Mirror.visit_all.Given.{Over}
use Rattle.mirror_walk.proofs.mirror.Mirror.visit_all.Goals as goal
use Rattle.mirror_walk.proofs.mirror.Mirror.visit_all.Goals.{In-Accepted}

pub addresses-init : goal.addresses-init
addresses-init g c =
    let s = g.D.Disk.state c.args.disk.now in
    let source = g.F.Fetch.state c.args.fetch.now in
    record {
      setting = setting-begins s c.args.self.now;
      sound = sound-begins g.D.Disk.observable s c.args.self.now c.requires.unspent c.requires.stands;
      answers = refl;
      disk_faults = refl;
      fetch_faults = refl;
      next = inl refl;
      is_address = tt;
      bounded = omega (arith, c.default-tally.ensures);
      answered = omega (arith, c.default-tally.ensures);
      gone = subst (HasGone g.D.Disk.observable g.F.Fetch.observable s s source source c.args.self.now c.args.self.now.kept Feed)
          (no-tally c.default-tally.result c.default-tally.ensures.0
          c.default-tally.ensures.1.0 c.default-tally.ensures.1.1.0 c.default-tally.ensures.1.1.1)
          (gone-none g.D.Disk.observable g.F.Fetch.observable s source c.args.self.now);
    }

pub overflow_add-tally : goal.overflow_add-tally
overflow_add-tally g c =
    let keeps = c.addresses.invariant in
    omega (
      arith,
      keeps.bounded,
      asks-some c.addresses.self.kept c.addresses.address keeps.next
          keeps.is_address,
    )

pub count-requires : goal.count-requires
count-requires g c =
    let keeps = c.addresses.invariant in
    omega (
      arith,
      keeps.answered,
      keeps.bounded,
      asks-some c.addresses.self.kept c.addresses.address keeps.next keeps.is_address,
    )

pub returns-in_err-answer-clause-setting : goal.returns-in_err-answer-clause-setting
returns-in_err-answer-clause-setting g c =
    setting-joins (g.D.Disk.state c.args.disk.now) (g.D.Disk.state c.addresses.disk)
    (g.D.Disk.state c.visit.new.disk)
    c.args.self.now c.addresses.self c.visit.new.self c.addresses.invariant.setting c.visit.ensures.setting

pub returns-in-NotThere-clause-setting : goal.returns-in-NotThere-clause-setting
returns-in-NotThere-clause-setting g c =
    setting-joins (g.D.Disk.state c.args.disk.now) (g.D.Disk.state c.addresses.disk)
    (g.D.Disk.state c.visit.new.disk)
    c.args.self.now c.addresses.self c.visit.new.self c.addresses.invariant.setting c.visit.ensures.setting

pub returns-in-Refused-clause-setting : goal.returns-in-Refused-clause-setting
returns-in-Refused-clause-setting g c =
    setting-joins (g.D.Disk.state c.args.disk.now) (g.D.Disk.state c.addresses.disk)
    (g.D.Disk.state c.visit.new.disk)
    c.args.self.now c.addresses.self c.visit.new.self c.addresses.invariant.setting c.visit.ensures.setting

pub returns-in-None-clause-setting : goal.returns-in-None-clause-setting
returns-in-None-clause-setting g c =
    setting-joins (g.D.Disk.state c.args.disk.now) (g.D.Disk.state c.addresses.disk)
    (g.D.Disk.state c.visit.new.disk)
    c.args.self.now c.addresses.self c.visit.new.self c.addresses.invariant.setting c.visit.ensures.setting

pub returns-in_err-answer-clause-sound : goal.returns-in_err-answer-clause-sound
returns-in_err-answer-clause-sound g c = λ works.
    sound-joins g.D.Disk.observable (g.D.Disk.state c.args.disk.now) (g.D.Disk.state c.addresses.disk)
    (g.D.Disk.state c.visit.new.disk) c.args.self.now c.addresses.self c.visit.new.self
    c.addresses.invariant.sound (c.in_err-answer.ensures.sound (λ e. works (err-of c.from_residual.result
    c.in_err-answer.field-0.0 c.from_residual.ensures.1 ∙ err-again c.in_err-answer.field-0.0 DiskFault e)))

pub returns-in-NotThere-clause-sound : goal.returns-in-NotThere-clause-sound
returns-in-NotThere-clause-sound g c = λ works.
    sound-joins g.D.Disk.observable (g.D.Disk.state c.args.disk.now) (g.D.Disk.state c.addresses.disk)
    (g.D.Disk.state c.visit.new.disk) c.args.self.now c.addresses.self c.visit.new.self
    c.addresses.invariant.sound (c.in_ok-answer.ensures.sound (ok-works _ _))

pub returns-in-Refused-clause-sound : goal.returns-in-Refused-clause-sound
returns-in-Refused-clause-sound g c = λ works.
    sound-joins g.D.Disk.observable (g.D.Disk.state c.args.disk.now) (g.D.Disk.state c.addresses.disk)
    (g.D.Disk.state c.visit.new.disk) c.args.self.now c.addresses.self c.visit.new.self
    c.addresses.invariant.sound (c.in_ok-answer.ensures.sound (ok-works _ _))

pub returns-in-None-clause-sound : goal.returns-in-None-clause-sound
returns-in-None-clause-sound g c = λ works.
    sound-joins g.D.Disk.observable (g.D.Disk.state c.args.disk.now) (g.D.Disk.state c.addresses.disk)
    (g.D.Disk.state c.visit.new.disk) c.args.self.now c.addresses.self c.visit.new.self
    c.addresses.invariant.sound (c.in_ok-answer.ensures.sound (ok-works _ _))

pub returns-in_err-answer-clause-visited : goal.returns-in_err-answer-clause-visited
returns-in_err-answer-clause-visited g c =
    let fault = c.in_err-answer.field-0.0 in
    let is : c.from_residual.result ≡ Err fault = err-of c.from_residual.result fault
    c.from_residual.ensures.1 in
    subst (λ (r : Result Visits WalkFault). VisitsByAnswers g.D.Disk.observable g.F.Fetch.observable
    (g.D.Disk.state c.args.disk.now) (g.D.Disk.state c.visit.new.disk) (g.F.Fetch.state c.args.fetch.now)
    (g.F.Fetch.state c.visit.new.fetch) c.args.self.now c.visit.new.self.kept r) (sym is)
    (ended-fault g.D.Disk.observable g.F.Fetch.observable (g.D.Disk.state c.args.disk.now)
    (g.D.Disk.state c.addresses.disk) (g.D.Disk.state c.visit.new.disk) (g.F.Fetch.state c.args.fetch.now)
    (g.F.Fetch.state c.addresses.fetch) (g.F.Fetch.state c.visit.new.fetch) c.args.self.now c.addresses.self
    c.addresses.address c.addresses.tally c.addresses.invariant.setting c.addresses.invariant.answers
    c.addresses.invariant.is_address c.addresses.invariant.gone c.visit.new.self.kept
    (Err fault) c.in_err-answer.ensures.visited c.addresses.invariant.sound.rests fault refl)

pub returns-in-NotThere-clause-visited : goal.returns-in-NotThere-clause-visited
returns-in-NotThere-clause-visited g c =
    ended-nowhere g.D.Disk.observable g.F.Fetch.observable (g.D.Disk.state c.args.disk.now)
    (g.D.Disk.state c.addresses.disk) (g.D.Disk.state c.visit.new.disk) (g.F.Fetch.state c.args.fetch.now)
    (g.F.Fetch.state c.addresses.fetch) (g.F.Fetch.state c.visit.new.fetch) c.args.self.now c.addresses.self
    c.addresses.address c.addresses.tally c.addresses.invariant.setting c.addresses.invariant.answers
    c.addresses.invariant.is_address c.addresses.invariant.gone c.visit.new.self.kept
    (Ok c.in_ok-answer.field-0) c.in_ok-answer.ensures.visited c.addresses.invariant.sound.rests
    (ap (λ (v : Visit). Ok v) c.in-NotThere.is)

pub returns-in-Refused-clause-visited : goal.returns-in-Refused-clause-visited
returns-in-Refused-clause-visited g c =
    ended-refused g.D.Disk.observable g.F.Fetch.observable (g.D.Disk.state c.args.disk.now)
    (g.D.Disk.state c.addresses.disk) (g.D.Disk.state c.visit.new.disk) (g.F.Fetch.state c.args.fetch.now)
    (g.F.Fetch.state c.addresses.fetch) (g.F.Fetch.state c.visit.new.fetch) c.args.self.now c.addresses.self
    c.addresses.address c.addresses.tally c.addresses.invariant.setting c.addresses.invariant.answers
    c.addresses.invariant.is_address c.addresses.invariant.gone c.visit.new.self.kept
    (Ok c.in_ok-answer.field-0) c.in_ok-answer.ensures.visited c.addresses.invariant.sound.rests c.in-Refused.why
    (ap (λ (v : Visit). Ok v) c.in-Refused.is)

pub returns-in-None-clause-visited : goal.returns-in-None-clause-visited
returns-in-None-clause-visited g c =
    subst (λ (t : Tally). VisitsByAnswers g.D.Disk.observable g.F.Fetch.observable
    (g.D.Disk.state c.args.disk.now) (g.D.Disk.state c.visit.new.disk) (g.F.Fetch.state c.args.fetch.now)
    (g.F.Fetch.state c.visit.new.fetch) c.args.self.now c.visit.new.self.kept
    (Ok record { tally = t; refused = None })) (sym c.count.ensures)
    (ended-done g.D.Disk.observable g.F.Fetch.observable (g.D.Disk.state c.args.disk.now)
    (g.D.Disk.state c.addresses.disk) (g.D.Disk.state c.visit.new.disk) (g.F.Fetch.state c.args.fetch.now)
    (g.F.Fetch.state c.addresses.fetch) (g.F.Fetch.state c.visit.new.fetch) c.args.self.now c.addresses.self
    c.addresses.address c.addresses.tally c.addresses.invariant.setting c.addresses.invariant.answers
    c.addresses.invariant.is_address c.addresses.invariant.gone c.visit.new.self.kept
    (Ok c.in_ok-answer.field-0) c.in_ok-answer.ensures.visited c.addresses.invariant.sound.rests
    c.in-Accepted.answer (ap (λ (v : Visit). Ok v) c.in-Accepted.is) (sym c.in-None.ensures.missing))

-- the accepted document
accepted : (g : Over) (c : In-Accepted g)
    → IsAnswered (setting_by c.addresses.self (λ _. c.in_ok-answer.ensures.visited.found)) c.addresses.self.kept
    c.addresses.address (Ok c.in-Accepted.answer) c.visit.new.self.kept
accepted g c =
    subst (λ (v : Visit). IsVisit (setting_by c.addresses.self (λ _. c.in_ok-answer.ensures.visited.found))
    c.addresses.self.kept c.addresses.address c.visit.new.self.kept (Ok v)) c.in-Accepted.is
    c.in_ok-answer.ensures.visited.visit

-- fewer addresses are left
on : (g : Over) (c : In-Accepted g) → GoesOn c.addresses.address c.visit.new.self.kept
on g c = goes-on c.addresses.self (λ _. c.in_ok-answer.ensures.visited.found) c.addresses.address
    c.visit.new.self.kept c.in-Accepted.answer c.addresses.invariant.next c.addresses.invariant.is_address
    (accepted g c)

pub addresses-smaller : goal.addresses-smaller
addresses-smaller g c =
    let at_answer = (goal.at.addresses-smaller g c).In-Accepted in
    (on g at_answer).fewer c.in-Some.next (sym c.in-Some.ensures.missing) c.in-Some.ensures.address

pub addresses-preserved : goal.addresses-preserved
addresses-preserved g c =
    let at_answer = (goal.at.addresses-preserved g c).In-Accepted in
    let keeps = c.addresses.invariant in
    let s = g.D.Disk.state c.args.disk.now in
    let m = g.D.Disk.state c.addresses.disk in
    let t = g.D.Disk.state c.visit.new.disk in
    let answer = c.in-Accepted.answer in
    let goes = on g at_answer in
    let fewer = goes.fewer c.in-Some.next (sym c.in-Some.ensures.missing) c.in-Some.ensures.address in
    let counts = counted-sums (one_asked c.addresses.tally) answer in
    let works : c.visit.result ≢ Err DiskFault =
    λ e. let clash : Ok c.in_ok-answer.field-0 ≡ Err DiskFault = sym c.in_ok-answer.was ∙ e in cc in
    record {
      setting = setting-joins s m t c.args.self.now c.addresses.self c.visit.new.self keeps.setting
          c.visit.ensures.setting;
      sound = sound-joins g.D.Disk.observable s m t c.args.self.now c.addresses.self c.visit.new.self keeps.sound
          (c.visit.ensures.sound works);
      answers = c.visit.ensures.answers ∙ keeps.answers;
      disk_faults = c.visit.ensures.faults.disk_counts.unfailed works ∙ keeps.disk_faults;
      fetch_faults = c.visit.ensures.faults.source_counts.unfailed
          (λ e. let clash : Ok c.in_ok-answer.field-0 ≡ Err FetchFault = sym c.in_ok-answer.was ∙ e in cc)
          ∙ keeps.fetch_faults;
      next = inr (sym c.in-Some.ensures.missing, goes.best);
      is_address = c.in-Some.ensures.address;
      bounded = omega (arith, ap (λ (v : Tally). v.asked) c.count.ensures, counts.0, fewer, keeps.bounded);
      answered = omega (
        arith,
        ap (λ (v : Tally). v.asked) c.count.ensures,
        ap sum_of c.count.ensures,
        counts.0,
        counts.1,
        keeps.answered,
      );
      gone = subst (HasGone g.D.Disk.observable g.F.Fetch.observable s t (g.F.Fetch.state c.args.fetch.now)
          (g.F.Fetch.state c.visit.new.fetch) c.args.self.now c.visit.new.self.kept c.in-Some.next)
          (sym c.count.ensures)
          (goes-further g.D.Disk.observable g.F.Fetch.observable (g.D.Disk.state c.args.disk.now)
          (g.D.Disk.state c.addresses.disk) (g.D.Disk.state c.visit.new.disk) (g.F.Fetch.state c.args.fetch.now)
          (g.F.Fetch.state c.addresses.fetch) (g.F.Fetch.state c.visit.new.fetch) c.args.self.now c.addresses.self
          c.addresses.address c.addresses.tally c.addresses.invariant.setting c.addresses.invariant.answers
          c.addresses.invariant.is_address c.addresses.invariant.gone c.visit.new.self.kept
          (Ok c.in_ok-answer.field-0) c.in_ok-answer.ensures.visited keeps.sound.rests
          answer (ap (λ (v : Visit). Ok v) c.in-Accepted.is) c.in-Some.next (sym c.in-Some.ensures.missing) fewer);
    }
