use Rattle.std.proofs.Common.{◌≡◌, ℕ, ◌+◌, List, ◌++◌, Err, Ok, Option, None, IsOk, length, ap, refl, sym, subst, arith, ◌∙◌}
use Rattle.std.specs.Prelude.{IfSome}
use Rattle.std.proofs.lemmas.Result.{err_from_is_err_and}
use Rattle.doc_source.specs.Pile.{IsAnswer as IsPileAnswer, IsOffer, refusal_after, unused, used_text}
use Rattle.doc_source.specs.declared.fault.PileFault.{PileFault}
use Rattle.doc_source.specs.declared.offer.Offer.{Offer}
use Rattle.feed_disk.specs.Moments.{AlwaysLeaves}
use Rattle.feed_disk.specs.declared.area.Area.TheVariants.{Mirror as MirrorArea}
use Rattle.feed_disk.proofs.MomentLemmas.{alone_joins}
use Rattle.mirror_walk.specs.Accept.{IsAnswerWithin, IsTakeable}
use Rattle.mirror_walk.specs.Mirror.{IsOfferStep}
use Rattle.command_ends.specs.declared.fault.Fault.{Fault}
use Rattle.command_ends.specs.declared.fault.Fault.TheVariants.{Disk, Input}
use Rattle.command_ends.specs.Fault.{fault_answer}
use Rattle.mirror_commands.specs.Mirror.{IsMirrored}
use Rattle.command_ends.specs.Fault.{pile_fault}
use Rattle.mirror_commands.specs.MirrorEnds.{GivesOffers}
use Rattle.mirror_commands.specs.Report.{HasAdded}
use Rattle.mirror_commands.specs.Mirror.{pile_limit}
use Rattle.mirror_commands.proofs.CountedLemmas.{counted-ends, counted-next, counted-start, counted-within}
use Rattle.mirror_commands.proofs.GivingLemmas.{giving-ends, giving-fault, giving-full, giving-next, giving-start, not-ok}
use Rattle.mirror_commands.proofs.GivingLemmas.{pile-no_disk, unended}
use Rattle.mirror_commands.proofs.OffersLemmas.{input-of_pile, mirrored-fault, reads-to, within-fault}
use Rattle.mirror_commands.proofs.RoomFaultLemmas.{offered-refused}
use Rattle.mirror_commands.proofs.from_pile.offer_all.Goals as goal

pub loop-offer-init : goal.loop-offer-init
loop-offer-init g c = record {
  giving = giving-start g.I.Source.observable g.D.Disk.observable c.args.report.now.detailed c.args.mirror.now
      (g.D.Disk.state c.args.disk.now)
      (g.I.Source.state c.args.input.now) c.args.reader.now c.args.report.now c.begun_images_are_whole.ensures
      c.requires.reader refl c.requires.report.0 c.requires.report.1 c.requires.usable c.requires.loaded;
  counted = counted-start pile_limit (g.I.Source.state c.args.input.now) c.args.reader.now c.requires.reader;
}

pub returns-in_err-offer-clause-read : goal.returns-in_err-offer-clause-read
returns-in_err-offer-clause-read g c =
    counted-ends pile_limit (g.I.Source.state c.args.input.now) (g.I.Source.state c.loop-offer.input)
    c.loop-offer.reader c.loop-offer.invariant.counted (g.I.Source.state c.next.new.source) c.next.result
    c.next.ensures.read

pub returns-in_err-added-clause-read : goal.returns-in_err-added-clause-read
returns-in_err-added-clause-read g c =
    let first = g.I.Source.state c.args.input.now in
    let rest = g.I.Source.state c.next.new.source in
    counted-within pile_limit first rest c.next.new.self
    (counted-next pile_limit first (g.I.Source.state c.loop-offer.input) c.loop-offer.reader
    c.loop-offer.invariant.counted rest c.next.new.self c.next.ensures.limit c.next.ensures.bound
    (c.next.ensures.kept (c.in_ok-offer.ensures.refusal c.loop-offer.invariant.giving.amid.fresh)))

pub returns-in_err-offer-clause-refused : goal.returns-in_err-offer-clause-refused
returns-in_err-offer-clause-refused g c =
    let p = err_from_is_err_and c.from_residual.result c.from_residual.ensures.1 in
    let h = c.loop-offer.invariant.giving in
    let first = c.args.mirror.now in
    rw (p.1, p.2) (λ refusal observable.
    mirrored-fault g.I.Source.observable c.args.report.now.detailed first.capacity first.base first.kept
    (g.I.Source.state c.args.input.now).left h.offers
    c.loop-offer.reader (g.I.Source.state c.loop-offer.input) c.loop-offer.mirror.kept c.loop-offer.report h.amid
    c.in_err-offer.field-0.0 observable (c.in_err-offer.ensures.answer h.amid.fresh observable) refusal)

pub returns-in_err-offer-clause-gives : goal.returns-in_err-offer-clause-gives
returns-in_err-offer-clause-gives g c =
    let p = err_from_is_err_and c.from_residual.result c.from_residual.ensures.1 in
    giving-ends g.I.Source.observable g.D.Disk.observable c.args.report.now.detailed c.args.mirror.now
    (g.D.Disk.state c.args.disk.now)
    (g.I.Source.state c.args.input.now) (g.D.Disk.state c.loop-offer.disk) (g.I.Source.state c.loop-offer.input)
    c.loop-offer.reader c.loop-offer.mirror c.loop-offer.report _ _ c.begun_images_are_whole.ensures
    c.loop-offer.invariant.giving
    (unended (not-ok c.from_residual.result _ p.1)
    (λ e. let is = p.1 in let was = p.2 in
    let disk : pile_fault c.in_err-offer.field-0.0 ≡ Disk = cc in pile-no_disk c.in_err-offer.field-0.0 disk))

pub returns-in_err-offer-clause-within : goal.returns-in_err-offer-clause-within
returns-in_err-offer-clause-within g c = λ is observable.
    let p = err_from_is_err_and c.from_residual.result c.from_residual.ensures.1 in
    let h = c.loop-offer.invariant.giving in
    let first = c.args.mirror.now in
    let fault = c.in_err-offer.field-0.0 in
    let input : pile_fault fault ≡ Input = let a = p.1 in let b = p.2 in cc in
    let failed = input-of_pile fault input in
    let going = c.in_err-offer.ensures.refusal h.amid.fresh ∙ ap (λ (f : PileFault). refusal_after (Err f)) failed in
    within-fault g.I.Source.observable c.args.report.now.detailed first.capacity first.base first.kept
    (g.I.Source.state c.args.input.now).left h.offers
    c.loop-offer.reader (g.I.Source.state c.loop-offer.input) c.loop-offer.mirror.kept c.loop-offer.report h.amid
    c.next.new.self (g.I.Source.state c.args.input.now) (g.I.Source.state c.next.new.source) observable refl
    c.in_err-offer.ensures.limit c.in_err-offer.ensures.bound (omega (arith, c.in_err-offer.ensures.used))
    (c.in_err-offer.ensures.stays going observable) (c.in_err-offer.ensures.«open» (ap Err failed))

pub returns-in_err-added-clause-refused : goal.returns-in_err-added-clause-refused
returns-in_err-added-clause-refused g c =
    let p = err_from_is_err_and c.from_residual-in_err-added.result c.from_residual-in_err-added.ensures.1 in
    let h = c.loop-offer.invariant.giving in
    let fault = c.in_err-added.field-0.0 in
    rw (p.1, p.2) (λ refusal observable.
    offered-refused (λ (f : Fault). IsMirrored c.args.report.now.detailed c.args.mirror.now.capacity
    c.args.mirror.now.base c.args.mirror.now.kept
    (g.I.Source.state c.args.input.now).left (fault_answer f)) fault c.in_err-added.ensures.only_errors refusal
    (λ size needed most same.
    giving-full g.I.Source.observable g.D.Disk.observable c.args.report.now.detailed c.args.mirror.now
    (g.D.Disk.state c.args.disk.now)
    (g.I.Source.state c.args.input.now)
    (g.D.Disk.state c.loop-offer.disk)
    (g.I.Source.state c.loop-offer.input) (g.I.Source.state c.next.new.source) c.loop-offer.reader c.next.new.self
    c.loop-offer.mirror c.loop-offer.report h c.in-Some.offer
    (c.in_ok-offer.ensures.used
    ∙ ap (λ (o : Option Offer). c.loop-offer.reader.used + length (used_text c.loop-offer.reader.used (Ok o)))
    c.in-Some.is)
    (λ t. subst (λ (o : Option Offer).
    IsPileAnswer c.loop-offer.reader.used c.loop-offer.reader.limit
    (unused c.loop-offer.reader (g.I.Source.state c.loop-offer.input)) (Ok o))
    c.in-Some.is (c.in_ok-offer.ensures.answer h.amid.fresh t))
    (λ t. subst (λ (o : Option Offer). unused c.loop-offer.reader (g.I.Source.state c.loop-offer.input)
    ≡ used_text c.loop-offer.reader.used (Ok o) ++ unused c.next.new.self (g.I.Source.state c.next.new.source))
    c.in-Some.is (c.in_ok-offer.ensures.stays (c.in_ok-offer.ensures.refusal h.amid.fresh) t))
    c.in_ok-offer.ensures.limit (omega (arith, c.in_ok-offer.ensures.bound))
    c.slice.result.now c.slice-in-Some.result.now size needed most c.slice.ensures c.slice-in-Some.ensures
    (c.in_err-added.ensures.full size needed most (ap Err same)) observable))

pub returns-in_err-added-clause-gives : goal.returns-in_err-added-clause-gives
returns-in_err-added-clause-gives g c =
    let p = err_from_is_err_and c.from_residual-in_err-added.result c.from_residual-in_err-added.ensures.1 in
    let h = c.loop-offer.invariant.giving in
    let fault = c.in_err-added.field-0.0 in
    giving-fault g.I.Source.observable g.D.Disk.observable c.args.report.now.detailed c.args.mirror.now
    (g.D.Disk.state c.args.disk.now)
    (g.I.Source.state c.args.input.now)
    (g.D.Disk.state c.loop-offer.disk)
    (g.I.Source.state c.loop-offer.input) (g.I.Source.state c.next.new.source) c.loop-offer.reader c.next.new.self
    c.loop-offer.mirror c.loop-offer.report h c.in-Some.offer
    (c.in_ok-offer.ensures.used
    ∙ ap (λ (o : Option Offer). c.loop-offer.reader.used + length (used_text c.loop-offer.reader.used (Ok o)))
    c.in-Some.is)
    (λ t. subst (λ (o : Option Offer).
    IsPileAnswer c.loop-offer.reader.used c.loop-offer.reader.limit
    (unused c.loop-offer.reader (g.I.Source.state c.loop-offer.input)) (Ok o))
    c.in-Some.is (c.in_ok-offer.ensures.answer h.amid.fresh t))
    (λ t. subst (λ (o : Option Offer). unused c.loop-offer.reader (g.I.Source.state c.loop-offer.input)
    ≡ used_text c.loop-offer.reader.used (Ok o) ++ unused c.next.new.self (g.I.Source.state c.next.new.source))
    c.in-Some.is (c.in_ok-offer.ensures.stays (c.in_ok-offer.ensures.refusal h.amid.fresh) t))
    c.in_ok-offer.ensures.limit (omega (arith, c.in_ok-offer.ensures.bound))
    (g.D.Disk.state c.offer-added.new.disk) fault _ _ c.in_err-added.ensures.only_errors
    (λ is. let a = p.1 in let b = p.2 in cc) (λ is. let a = p.1 in let b = p.2 in cc)
    (λ is. let mirror = c.loop-offer.mirror in
    subst (λ (a : List ℕ). IsTakeable mirror.capacity mirror.base mirror.kept a c.in-Some.offer.bytes) c.slice.ensures
    (subst (λ (x : List ℕ). IsTakeable mirror.capacity mirror.base mirror.kept c.slice.result.now x)
    c.slice-in-Some.ensures (c.in_err-added.ensures.failed_taking (ap Err is))))
    (not-ok c.from_residual-in_err-added.result _ p.1) c.begun_images_are_whole.ensures
    (λ observable rest.
    subst (λ (a : List ℕ). AlwaysLeaves (g.D.Disk.state c.loop-offer.disk) (g.D.Disk.state c.offer-added.new.disk) MirrorArea
    (IsOfferStep c.loop-offer.mirror a c.in-Some.offer.bytes)) c.slice.ensures
    (subst (λ (x : List ℕ). AlwaysLeaves (g.D.Disk.state c.loop-offer.disk) (g.D.Disk.state c.offer-added.new.disk) MirrorArea
    (IsOfferStep c.loop-offer.mirror c.slice.result.now x)) c.slice-in-Some.ensures
    (c.offer-added.ensures.moments observable rest)))
    (λ other given. subst (λ disk. GivesOffers c.args.mirror.now.capacity c.args.mirror.now.base c.args.mirror.now.kept
    (g.I.Source.state c.args.input.now).left g.I.Source.observable g.D.Disk.observable (g.D.Disk.state c.args.disk.now)
    (g.D.Disk.state disk) (c.from_residual-in_err-added.result ≡ Err Disk)
    (IsOk c.from_residual-in_err-added.result))
    (sym (c.in_err-added.ensures.unmoved other).1) given)

pub returns-in_err-added-clause-others : goal.returns-in_err-added-clause-others
returns-in_err-added-clause-others g c = λ a other.
    alone_joins _ (g.D.Disk.state c.loop-offer.disk) _ a (c.loop-offer.invariant.giving.others a other)
    (c.in_err-added.ensures.others a other)

pub loop-offer-preserved : goal.loop-offer-preserved
loop-offer-preserved g c =
    let h = c.loop-offer.invariant.giving in
    let mirror = c.loop-offer.mirror in
    let left = c.offer-added.new.mirror in
    let offer = c.in-Some.offer in
    let answered = c.in_ok-added.ensures.answer in
    let first = g.I.Source.state c.args.input.now in
    let rest = g.I.Source.state c.next.new.source in
    record {
      giving = giving-next g.I.Source.observable g.D.Disk.observable c.args.report.now.detailed c.args.mirror.now
          (g.D.Disk.state c.args.disk.now)
          (g.I.Source.state c.args.input.now)
          (g.D.Disk.state c.loop-offer.disk)
          (g.I.Source.state c.loop-offer.input) (g.I.Source.state c.next.new.source) c.loop-offer.reader c.next.new.self
          c.loop-offer.mirror c.loop-offer.report h c.in-Some.offer
          (c.in_ok-offer.ensures.used
          ∙ ap (λ (o : Option Offer). c.loop-offer.reader.used + length (used_text c.loop-offer.reader.used (Ok o)))
          c.in-Some.is)
          (λ t. subst (λ (o : Option Offer).
          IsPileAnswer c.loop-offer.reader.used c.loop-offer.reader.limit
          (unused c.loop-offer.reader (g.I.Source.state c.loop-offer.input)) (Ok o))
          c.in-Some.is (c.in_ok-offer.ensures.answer h.amid.fresh t))
          (λ t. subst (λ (o : Option Offer). unused c.loop-offer.reader (g.I.Source.state c.loop-offer.input)
          ≡ used_text c.loop-offer.reader.used (Ok o) ++ unused c.next.new.self (g.I.Source.state c.next.new.source))
          c.in-Some.is (c.in_ok-offer.ensures.stays (c.in_ok-offer.ensures.refusal h.amid.fresh) t))
          c.in_ok-offer.ensures.limit (omega (arith, c.in_ok-offer.ensures.bound))
          (g.D.Disk.state c.offer-added.new.disk) left c.offer-added.new.self answered.0 (c.in_ok-offer.ensures.refusal h.amid.fresh)
          (subst (λ (o : Option Offer). IfSome o IsOffer) c.in-Some.is c.in_ok-offer.ensures.rules) answered.1
          (subst (λ (a : List ℕ). IsAnswerWithin mirror.capacity mirror.base mirror.kept a offer.bytes answered.0 left.kept)
          c.slice.ensures
          (subst (λ (x : List ℕ).
          IsAnswerWithin mirror.capacity mirror.base mirror.kept c.slice.result.now x answered.0 left.kept)
          c.slice-in-Some.ensures answered.2))
          (subst (λ (a : List ℕ). HasAdded c.loop-offer.report c.offer-added.new.self a answered.0) c.slice.ensures answered.3)
          c.in_ok-added.ensures.same (c.in_ok-added.ensures.usable (λ e. cc))
          (λ observable rest.
          subst (λ (a : List ℕ). AlwaysLeaves (g.D.Disk.state c.loop-offer.disk) (g.D.Disk.state c.offer-added.new.disk) MirrorArea
          (IsOfferStep c.loop-offer.mirror a c.in-Some.offer.bytes)) c.slice.ensures
          (subst (λ (x : List ℕ). AlwaysLeaves (g.D.Disk.state c.loop-offer.disk) (g.D.Disk.state c.offer-added.new.disk) MirrorArea
          (IsOfferStep c.loop-offer.mirror c.slice.result.now x)) c.slice-in-Some.ensures
          (c.offer-added.ensures.moments observable rest)))
          (λ observable rest. c.in_ok-added.ensures.rests (λ e. cc) observable rest) c.in_ok-added.ensures.others
          (c.in_ok-added.ensures.disk.unfailed (λ e. cc)) (c.in_ok-offer.ensures.faults.unfailed (λ e. cc));
      counted = counted-next pile_limit first (g.I.Source.state c.loop-offer.input) c.loop-offer.reader
          c.loop-offer.invariant.counted rest c.next.new.self c.next.ensures.limit c.next.ensures.bound
          (c.next.ensures.kept (c.in_ok-offer.ensures.refusal h.amid.fresh));
    }

pub returns-clause-read : goal.returns-clause-read
returns-clause-read g c =
    let first = g.I.Source.state c.args.input.now in
    let rest = g.I.Source.state c.next.new.source in
    counted-within pile_limit first rest c.next.new.self
    (counted-next pile_limit first (g.I.Source.state c.loop-offer.input) c.loop-offer.reader
    c.loop-offer.invariant.counted rest c.next.new.self c.next.ensures.limit c.next.ensures.bound
    (c.next.ensures.kept (c.in_ok-offer.ensures.refusal c.loop-offer.invariant.giving.amid.fresh)))

pub returns-clause-gives : goal.returns-clause-gives
returns-clause-gives g c =
    let h = c.loop-offer.invariant.giving in
    let first = c.args.mirror.now in
    giving-ends g.I.Source.observable g.D.Disk.observable c.args.report.now.detailed c.args.mirror.now
    (g.D.Disk.state c.args.disk.now)
    (g.I.Source.state c.args.input.now)
    (g.D.Disk.state c.loop-offer.disk) (g.I.Source.state c.loop-offer.input) c.loop-offer.reader c.loop-offer.mirror
    c.loop-offer.report _ _ c.begun_images_are_whole.ensures h
    (λ whole observable. reads-to g.I.Source.observable c.args.report.now.detailed first.capacity first.base first.kept
    (g.I.Source.state c.args.input.now).left
    h.offers c.loop-offer.reader (g.I.Source.state c.loop-offer.input) c.loop-offer.mirror.kept
    c.loop-offer.report h.amid
    (Ok None) observable (subst (λ (o : Option Offer). IsPileAnswer c.loop-offer.reader.used c.loop-offer.reader.limit
    (unused c.loop-offer.reader (g.I.Source.state c.loop-offer.input)) (Ok o)) c.in_default.is
    (c.in_ok-offer.ensures.answer h.amid.fresh observable)))
