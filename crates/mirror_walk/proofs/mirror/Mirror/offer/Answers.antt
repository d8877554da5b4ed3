use Rattle.std.proofs.Common.{◌≡◌, ◌≢◌, ◌⊎◌, inl, inr, Ok, Err, refl, sym, ◌∙◌, subst, arith}
use Rattle.std.proofs.lemmas.Result.{err_from_is_err_and}
use Rattle.feed_disk.specs.declared.area.Area.TheVariants.{Mirror as MirrorArea}
use Rattle.feed_disk.proofs.MomentLemmas.{always_weaker}
use Rattle.feed_journal.specs.Records.{size_of}
use Rattle.mirror_walk.specs.declared.answer.Accepted.TheVariants.{Taken}
use Rattle.mirror_walk.specs.declared.answer.Offered.{Offered}
use Rattle.mirror_walk.specs.declared.answer.Offered.TheVariants.{DiskFault, NoMemory}
use Rattle.mirror_walk.specs.declared.offer.Checked.{Checked}
use Rattle.mirror_walk.specs.Accept.{Answer}
use Rattle.mirror_walk.specs.Holding.{payloads_of}
use Rattle.mirror_walk.specs.Mirror.{IsOfferStep, KeepsMirror}
use Rattle.mirror_walk.specs.Taking.{IsChecked, IsTakeStep, IsToBeTaken}
use Rattle.mirror_walk.proofs.CheckedLemmas.{answer-fits, new-takeable, refused-answers, taken-answers}
use Rattle.mirror_walk.proofs.SoundLemmas.{setting-begins, sound-begins}
use Rattle.mirror_walk.proofs.StepLemmas.{offer-step, still-offers}
use Rattle.mirror_walk.proofs.WithinLemmas.{offer-served}
use Rattle.mirror_walk.proofs.mirror.Mirror.offer.Given.{Over}
use Rattle.mirror_walk.proofs.mirror.Mirror.offer.Goals as goal
use Rattle.mirror_walk.proofs.mirror.Mirror.offer.Goals.{In-New}

pub returns-in_err-accepted-clause-answer : goal.returns-in_err-accepted-clause-answer
returns-in_err-accepted-clause-answer g c =
    let returned = err_from_is_err_and c.from_residual.result c.from_residual.ensures.1 in
    rw (returned.1, returned.2) (refused-answers c.args.self.now c.args.address.now c.args.bytes.now
    c.in_err-accepted.field-0.0 c.in_err-accepted.ensures)

pub returns-in_err-accepted-clause-first_fit : goal.returns-in_err-accepted-clause-first_fit
returns-in_err-accepted-clause-first_fit g c = answer-fits c.args.self.now c.args.address.now c.args.bytes.now
    c.from_residual.result c.args.self.now.kept (returns-in_err-accepted-clause-answer g c)

never_failed : (refusal : Offered) (result : Answer) → refusal ≢ DiskFault
    → (x : Offered) × (result ≡ Err x) × (x ≡ refusal) → result ≢ Err DiskFault
never_failed refusal result other (x, is, same) failed =
    let it : x ≡ DiskFault = cc in
    other (sym same ∙ it)

pub returns-in_err-accepted-clause-failed_taking : goal.returns-in_err-accepted-clause-failed_taking
returns-in_err-accepted-clause-failed_taking g c = λ failed. absurd (never_failed c.in_err-accepted.field-0.0
    c.from_residual.result c.in_err-accepted.ensures.0
    (err_from_is_err_and c.from_residual.result c.from_residual.ensures.1) failed)

pub returns-in_err-accepted-clause-spent : goal.returns-in_err-accepted-clause-spent
returns-in_err-accepted-clause-spent g c = λ failed. absurd (never_failed c.in_err-accepted.field-0.0
    c.from_residual.result c.in_err-accepted.ensures.0
    (err_from_is_err_and c.from_residual.result c.from_residual.ensures.1) failed)

pub returns-in_err-accepted-clause-faults : goal.returns-in_err-accepted-clause-faults
returns-in_err-accepted-clause-faults g c = record {
  later = omega arith;
  failed = λ failed. absurd (never_failed c.in_err-accepted.field-0.0 c.from_residual.result
      c.in_err-accepted.ensures.0 (err_from_is_err_and c.from_residual.result c.from_residual.ensures.1) failed);
  unfailed = λ works. refl;
}

pub returns-in_err-accepted-clause-moments : goal.returns-in_err-accepted-clause-moments
returns-in_err-accepted-clause-moments g c = λ tells rest.
    still-offers c.begun_images_are_whole.ensures (g.D.Disk.state c.args.disk.now) c.args.self.now
    (subst KeepsMirror c.self.view_is c.self.invariant) c.requires.unspent (c.requires.stands tells)
    c.args.address.now c.args.bytes.now rest

pub returns-in_err-accepted-clause-setting : goal.returns-in_err-accepted-clause-setting
returns-in_err-accepted-clause-setting g c = setting-begins (g.D.Disk.state c.args.disk.now) c.args.self.now

pub returns-in_err-accepted-clause-sound : goal.returns-in_err-accepted-clause-sound
returns-in_err-accepted-clause-sound g c = λ works.
    sound-begins g.D.Disk.observable (g.D.Disk.state c.args.disk.now) c.args.self.now c.requires.unspent
    c.requires.stands

pub returns-in_err-accepted-clause-served : goal.returns-in_err-accepted-clause-served
returns-in_err-accepted-clause-served g c = λ head history offers same served taken there.
    offer-served c.args.self.now.capacity c.args.self.now.base c.args.self.now.kept c.args.address.now
    c.args.bytes.now c.args.self.now.kept head history offers same served taken there c.from_residual.result
    (returns-in_err-accepted-clause-answer g c)

-- the answer of a document that isn't taken
pub returns-in-Answered-clause-answer : goal.returns-in-Answered-clause-answer
returns-in-Answered-clause-answer g c =
    let checked = subst (λ (found : Checked). IsChecked c.args.self.now c.args.address.now c.args.bytes.now
    (Ok found))
    c.in-Answered.is c.in_ok-accepted.ensures in
    inr (inr checked.1)

pub returns-in-Answered-clause-first_fit : goal.returns-in-Answered-clause-first_fit
returns-in-Answered-clause-first_fit g c = answer-fits c.args.self.now c.args.address.now c.args.bytes.now
    (Ok c.in-Answered.accepted) c.args.self.now.kept (returns-in-Answered-clause-answer g c)

pub returns-in-Answered-clause-moments : goal.returns-in-Answered-clause-moments
returns-in-Answered-clause-moments g c = λ tells rest.
    still-offers c.begun_images_are_whole.ensures (g.D.Disk.state c.args.disk.now) c.args.self.now
    (subst KeepsMirror c.self.view_is c.self.invariant) c.requires.unspent (c.requires.stands tells)
    c.args.address.now c.args.bytes.now rest

pub returns-in-Answered-clause-setting : goal.returns-in-Answered-clause-setting
returns-in-Answered-clause-setting g c = setting-begins (g.D.Disk.state c.args.disk.now) c.args.self.now

pub returns-in-Answered-clause-sound : goal.returns-in-Answered-clause-sound
returns-in-Answered-clause-sound g c = λ works.
    sound-begins g.D.Disk.observable (g.D.Disk.state c.args.disk.now) c.args.self.now c.requires.unspent
    c.requires.stands

pub take-requires-clause-taken : goal.take-requires-clause-taken
take-requires-clause-taken g c =
    (subst (λ (found : Checked). IsChecked c.args.self.now c.args.address.now c.args.bytes.now (Ok found))
    c.in-New.is
    c.in_ok-accepted.ensures).1.taken

pub take-requires-clause-name : goal.take-requires-clause-name
take-requires-clause-name g c =
    (subst (λ (found : Checked). IsChecked c.args.self.now c.args.address.now c.args.bytes.now (Ok found))
    c.in-New.is
    c.in_ok-accepted.ensures).0

-- the document is to be taken
to-take : (g : Over) (c : In-New g)
    → IsToBeTaken c.args.self.now c.args.address.now c.args.bytes.now c.in-New.given.kept c.in-New.framed
to-take g c =
    (subst (λ (found : Checked). IsChecked c.args.self.now c.args.address.now c.args.bytes.now (Ok found)) c.in-New.is
    c.in_ok-accepted.ensures).1

log-size : (g : Over) (c : In-New g) → c.args.self.now.log.size ≡ size_of (payloads_of c.args.self.now.kept)
log-size g c = ((subst KeepsMirror c.self.view_is c.self.invariant).documents c.requires.unspent).size

pub returns-in-New-clause-answer : goal.returns-in-New-clause-answer
returns-in-New-clause-answer g c =
    let at_new = (goal.at.returns-in-New-clause-answer g c).In-New in
    taken-answers c.args.self.now c.args.address.now c.args.bytes.now c.in-New.given.kept c.in-New.framed
    (log-size g at_new) (to-take g at_new) c.take.result c.take.new.self.kept c.take.ensures.kept c.take.ensures.answers

pub returns-in-New-clause-failed_taking : goal.returns-in-New-clause-failed_taking
returns-in-New-clause-failed_taking g c = λ failed.
    let at_new = (goal.at.returns-in-New-clause-failed_taking g c).In-New in
    new-takeable c.args.self.now c.args.address.now c.args.bytes.now c.in-New.given.kept c.in-New.framed
    (log-size g at_new) (to-take g at_new)

pub returns-in-New-clause-first_fit : goal.returns-in-New-clause-first_fit
returns-in-New-clause-first_fit g c = answer-fits c.args.self.now c.args.address.now c.args.bytes.now
    c.take.result c.take.new.self.kept (returns-in-New-clause-answer g c)

-- an answer other than these two is `NoMemory`
memory_left : (answer : Answer) → (answer ≡ Ok Taken) ⊎ (answer ≡ Err NoMemory) ⊎ (answer ≡ Err DiskFault)
    → answer ≢ Ok Taken → answer ≢ Err DiskFault → answer ≡ Err NoMemory
memory_left answer (inl taken) other other' = absurd (other taken)
memory_left answer (inr (inl spent)) other other' = spent
memory_left answer (inr (inr failed)) other other' = absurd (other' failed)

pub returns-in-New-clause-unchanged : goal.returns-in-New-clause-unchanged
returns-in-New-clause-unchanged g c = λ other other'.
    c.take.ensures.unchanged (memory_left c.take.result c.take.ensures.answers other other')

pub returns-in-New-clause-moments : goal.returns-in-New-clause-moments
returns-in-New-clause-moments g c = λ tells rest.
    let mirror = c.args.self.now in
    let at_new = (goal.at.returns-in-New-clause-moments g c).In-New in
    always_weaker (g.D.Disk.state c.args.disk.now) (g.D.Disk.state c.take.new.disk) MirrorArea
    (IsTakeStep mirror c.in-New.given.kept) (IsOfferStep mirror c.args.address.now c.args.bytes.now)
    (offer-step mirror c.args.address.now c.args.bytes.now c.in-New.given.kept c.in-New.framed
    (log-size g at_new) (to-take g at_new)) (c.take.ensures.moments tells rest)

pub returns-in-New-clause-served : goal.returns-in-New-clause-served
returns-in-New-clause-served g c = λ head history offers same served taken there.
    offer-served c.args.self.now.capacity c.args.self.now.base c.args.self.now.kept c.args.address.now
    c.args.bytes.now c.take.new.self.kept head history offers same served taken there c.take.result
    (returns-in-New-clause-answer g c)
