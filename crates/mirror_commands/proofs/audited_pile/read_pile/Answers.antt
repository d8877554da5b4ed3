use Rattle.std.proofs.Common.{◌≡◌, ◌+◌, ◌<◌, List, ◌++◌, Err, Ok, Option, None, length, ap, refl, subst, sym}
use Rattle.std.proofs.Common.{arith, ◌∙◌}
use Rattle.std.specs.Prelude.{IfSome}
use Rattle.std.proofs.lemmas.Result.{err_from_is_err_and}
use Rattle.doc_source.specs.Pile.{IsAnswer as IsPileAnswer, IsOffer, refusal_after, unused, used_text}
use Rattle.doc_source.specs.declared.fault.PileFault.{PileFault}
use Rattle.doc_source.specs.declared.offer.Offer.{Offer}
use Rattle.command_ends.specs.declared.fault.Fault.TheVariants.{Input}
use Rattle.mirror_commands.specs.Audit.{audited_limit}
use Rattle.command_ends.specs.Fault.{pile_fault}
use Rattle.mirror_commands.proofs.AuditedPileLemmas.{IsReading, pile-input, reading-ends, reading-full, reading-next}
use Rattle.mirror_commands.proofs.AuditedPileLemmas.{reading-refused, reading-start}
use Rattle.mirror_commands.proofs.AuditedPileLemmas.{reading-stops}
use Rattle.mirror_commands.proofs.CountedLemmas.{counted-ends, counted-next, counted-start, counted-within}
use Rattle.mirror_commands.proofs.audited_pile.read_pile.Goals as goal

pub loop-offers-init : goal.loop-offers-init
loop-offers-init g c = record {
  reading = subst (λ (os : List Offer). IsReading g.I.Source.observable c.args.limit (g.I.Source.state c.args.input.now)
      (g.I.Source.state c.args.input.now) c.in_ok-reader.reader os) (sym c.new-offers.ensures.items)
      (reading-start g.I.Source.observable c.args.limit (g.I.Source.state c.args.input.now) c.in_ok-reader.reader
      c.in_ok-reader.ensures);
  counted = counted-start c.args.limit (g.I.Source.state c.args.input.now) c.in_ok-reader.reader c.in_ok-reader.ensures;
  faults = refl;
}

pub returns-in_err-offer-clause-read : goal.returns-in_err-offer-clause-read
returns-in_err-offer-clause-read g c =
    counted-ends c.args.limit (g.I.Source.state c.args.input.now) (g.I.Source.state c.loop-offers.input)
    c.loop-offers.reader c.loop-offers.invariant.counted (g.I.Source.state c.next.new.source) c.next.result
    c.next.ensures.read

pub returns-in_err-offer-clause-refused : goal.returns-in_err-offer-clause-refused
returns-in_err-offer-clause-refused g c =
    let p = err_from_is_err_and c.from_residual-in_err-offer.result c.from_residual-in_err-offer.ensures.1 in
    let h = c.loop-offers.invariant.reading in
    rw (p.1, p.2) (λ refusal observable.
    reading-refused g.I.Source.observable c.args.limit (g.I.Source.state c.args.input.now)
    (g.I.Source.state c.loop-offers.input) c.loop-offers.reader c.loop-offers.offers.items h c.in_err-offer.field-0.0
    observable (c.in_err-offer.ensures.answer h.fresh observable) refusal)

pub returns-in_err-offer-clause-within : goal.returns-in_err-offer-clause-within
returns-in_err-offer-clause-within g c = λ is observable.
    let p = err_from_is_err_and c.from_residual-in_err-offer.result c.from_residual-in_err-offer.ensures.1 in
    let h = c.loop-offers.invariant.reading in
    let fault = c.in_err-offer.field-0.0 in
    let input : pile_fault fault ≡ Input = let a = p.1 in let b = p.2 in cc in
    let failed = pile-input fault input in
    let going = c.in_err-offer.ensures.refusal h.fresh ∙ ap (λ (f : PileFault). refusal_after (Err f)) failed in
    reading-stops g.I.Source.observable c.args.limit (g.I.Source.state c.args.input.now)
    (g.I.Source.state c.loop-offers.input) c.loop-offers.reader c.loop-offers.offers.items h c.next.new.self
    (g.I.Source.state c.next.new.source) observable
    c.in_err-offer.ensures.limit c.in_err-offer.ensures.bound (omega (arith, c.in_err-offer.ensures.used))
    (c.in_err-offer.ensures.stays going observable) (c.in_err-offer.ensures.«open» (ap Err failed))

pub returns-then-len-eq-MAX_AUDITED_OFFERS-clause-refused : goal.returns-then-len-eq-MAX_AUDITED_OFFERS-clause-refused
returns-then-len-eq-MAX_AUDITED_OFFERS-clause-refused g c = λ refusal observable.
    let h = c.loop-offers.invariant.reading in
    let reader = c.loop-offers.reader in
    let now = g.I.Source.state c.loop-offers.input in
    let after = c.next.new.self in
    let rest = g.I.Source.state c.next.new.source in
    let full : length c.loop-offers.offers.items ≡ audited_limit =
    omega (arith, c.if-len-eq-MAX_AUDITED_OFFERS.true, c.len.ensures, c.loop-offers.offers.ok.0) in
    reading-full g.I.Source.observable c.args.limit (g.I.Source.state c.args.input.now) now reader c.loop-offers.offers.items
    h rest after c.in-Some.offer
    (c.in_ok-offer.ensures.used
    ∙ ap (λ (o : Option Offer). reader.used + length (used_text reader.used (Ok o))) c.in-Some.is)
    (λ t. subst (λ (o : Option Offer). IsPileAnswer reader.used reader.limit (unused reader now) (Ok o)) c.in-Some.is
    (c.in_ok-offer.ensures.answer h.fresh t))
    (λ t. subst (λ (o : Option Offer). unused reader now ≡ used_text reader.used (Ok o) ++ unused after rest)
    c.in-Some.is (c.in_ok-offer.ensures.stays (c.in_ok-offer.ensures.refusal h.fresh) t))
    c.in_ok-offer.ensures.limit (omega (arith, c.in_ok-offer.ensures.bound)) observable full

pub loop-offers-preserved : goal.loop-offers-preserved
loop-offers-preserved g c =
    let h = c.loop-offers.invariant.reading in
    let reader = c.loop-offers.reader in
    let now = g.I.Source.state c.loop-offers.input in
    let after = c.next.new.self in
    let rest = g.I.Source.state c.next.new.source in
    let room : length c.loop-offers.offers.items < audited_limit =
    omega (arith, c.if-len-eq-MAX_AUDITED_OFFERS.false, c.len.ensures, c.loop-offers.offers.ok.0, h.few) in
    record {
      reading = subst (λ (os : List Offer). IsReading g.I.Source.observable c.args.limit (g.I.Source.state c.args.input.now)
          rest after os) (sym c.in_ok-push.ensures.items)
          (reading-next g.I.Source.observable c.args.limit (g.I.Source.state c.args.input.now) now reader
          c.loop-offers.offers.items h rest after c.in-Some.offer
          (c.in_ok-offer.ensures.used
          ∙ ap (λ (o : Option Offer). reader.used + length (used_text reader.used (Ok o))) c.in-Some.is)
          (λ t. subst (λ (o : Option Offer). IsPileAnswer reader.used reader.limit (unused reader now) (Ok o))
          c.in-Some.is (c.in_ok-offer.ensures.answer h.fresh t))
          (λ t. subst (λ (o : Option Offer). unused reader now ≡ used_text reader.used (Ok o) ++ unused after rest)
          c.in-Some.is (c.in_ok-offer.ensures.stays (c.in_ok-offer.ensures.refusal h.fresh) t))
          c.in_ok-offer.ensures.limit (omega (arith, c.in_ok-offer.ensures.bound))
          (c.in_ok-offer.ensures.refusal h.fresh)
          (subst (λ (o : Option Offer). IfSome o IsOffer) c.in-Some.is c.in_ok-offer.ensures.rules) room);
      counted = counted-next c.args.limit (g.I.Source.state c.args.input.now) now reader c.loop-offers.invariant.counted
          rest after c.next.ensures.limit c.next.ensures.bound
          (c.next.ensures.kept (c.in_ok-offer.ensures.refusal h.fresh));
      faults = c.in_ok-offer.ensures.faults.unfailed (λ e. cc) ∙ c.loop-offers.invariant.faults;
    }

pub returns-clause-offers : goal.returns-clause-offers
returns-clause-offers g c = λ observable.
    let h = c.loop-offers.invariant.reading in
    reading-ends g.I.Source.observable c.args.limit (g.I.Source.state c.args.input.now) (g.I.Source.state c.loop-offers.input)
    c.loop-offers.reader c.loop-offers.offers.items h (Ok None) observable
    (subst (λ (o : Option Offer). IsPileAnswer c.loop-offers.reader.used c.loop-offers.reader.limit
    (unused c.loop-offers.reader (g.I.Source.state c.loop-offers.input)) (Ok o)) c.in_default.is
    (c.in_ok-offer.ensures.answer h.fresh observable))

pub returns-then-len-eq-MAX_AUDITED_OFFERS-clause-read : goal.returns-then-len-eq-MAX_AUDITED_OFFERS-clause-read
returns-then-len-eq-MAX_AUDITED_OFFERS-clause-read g c =
    let first = g.I.Source.state c.args.input.now in
    let rest = g.I.Source.state c.next.new.source in
    counted-within c.args.limit first rest c.next.new.self
    (counted-next c.args.limit first (g.I.Source.state c.loop-offers.input) c.loop-offers.reader
    c.loop-offers.invariant.counted rest c.next.new.self c.next.ensures.limit c.next.ensures.bound
    (c.next.ensures.kept (c.in_ok-offer.ensures.refusal c.loop-offers.invariant.reading.fresh)))

pub returns-in_err-push-clause-read : goal.returns-in_err-push-clause-read
returns-in_err-push-clause-read g c =
    let first = g.I.Source.state c.args.input.now in
    let rest = g.I.Source.state c.next.new.source in
    counted-within c.args.limit first rest c.next.new.self
    (counted-next c.args.limit first (g.I.Source.state c.loop-offers.input) c.loop-offers.reader
    c.loop-offers.invariant.counted rest c.next.new.self c.next.ensures.limit c.next.ensures.bound
    (c.next.ensures.kept (c.in_ok-offer.ensures.refusal c.loop-offers.invariant.reading.fresh)))

pub returns-clause-read : goal.returns-clause-read
returns-clause-read g c =
    let first = g.I.Source.state c.args.input.now in
    let rest = g.I.Source.state c.next.new.source in
    counted-within c.args.limit first rest c.next.new.self
    (counted-next c.args.limit first (g.I.Source.state c.loop-offers.input) c.loop-offers.reader
    c.loop-offers.invariant.counted rest c.next.new.self c.next.ensures.limit c.next.ensures.bound
    (c.next.ensures.kept (c.in_ok-offer.ensures.refusal c.loop-offers.invariant.reading.fresh)))
