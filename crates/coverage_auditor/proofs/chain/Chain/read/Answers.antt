use Rattle.std.proofs.Common.{◌≡◌, ℕ, [], List, Some, ap, take, sym, subst, ◌∙◌, arith}
use Rattle.std.specs.Prelude.{All, filter_map, option_map, slice_get}
use Rattle.std.proofs.lemmas.List.{take_all}
use Rattle.std.proofs.lemmas.List.Elements.{All-nil}
use Rattle.atom_writer.specs.Doc.{DocValue}
use Rattle.coverage_certificate.specs.Certificate.{AreCoverLines, CertificateValue, CoverValue}
use Rattle.coverage_auditor.specs.Chain.{ArePlaces, IsShelf, shown}
use Rattle.coverage_auditor.specs.Offers.{IsIndexOf}
use Rattle.coverage_auditor.specs.Verdict.{AreDocuments}
use Rattle.coverage_auditor.specs.declared.offers.Offers.{Offers}
use Rattle.coverage_auditor.proofs.ChainLemmas.{chain-of, first-more, line-read, line-refused, read-none}
use Rattle.coverage_auditor.proofs.ChainLemmas.{shelf-none, whole-from}
use Rattle.coverage_auditor.proofs.chain.Chain.read.Goals as goal

places-none : (documents : List DocValue) (places : List ℕ) → places ≡ [] → ArePlaces documents places
places-none documents places e = subst (ArePlaces documents) (sym e) (All-nil _)

first-none : (documents : List DocValue) (places : List ℕ) → documents ≡ [] → places ≡ []
    → slice_get (shown documents places) 0 ≡ slice_get documents 0
unfolding shown
first-none documents places none e =
    ap (λ (ps : List ℕ). slice_get (filter_map (slice_get documents) ps) 0) e
    ∙ ap (λ (ds : List DocValue). slice_get ds 0) (sym none)

pub loop-line-init : goal.loop-line-init
loop-line-init c =
    let cert = c.args.certificate.now in
    let pile = c.args.pile.now in
    record {
      offered = subst (λ (base : List ℕ). IsIndexOf base pile c.in_ok-of.field-0.firsts c.in_ok-of.field-0.places)
          (ap (λ (v : CertificateValue). v.base) c.certificate.view_is) c.in_ok-of.ensures;
      shelf = subst (λ (ds : List DocValue). IsShelf cert pile ds c.new-2.result) (sym c.new.ensures.items)
          (shelf-none cert pile c.new-2.result c.new-2.ensures.empty);
      are = places-none c.new.result.items c.new-places.result.items c.new-places.ensures.items;
      read = read-none cert pile c.as_slice-lines.result.now c.new.result.items c.new-places.result.items
          c.new-places.ensures.items;
      named = ap (λ (ds : List DocValue). option_map (λ (d : DocValue). d.name) (slice_get ds 0))
          (sym c.new.ensures.items);
      first = first-none c.new.result.items c.new-places.result.items c.new.ensures.items
          c.new-places.ensures.items;
    }

pub returns-in_err-at : goal.returns-in_err-at
returns-in_err-at c =
    let cert = c.args.certificate.now in
    let lines = c.as_slice-lines.result.now in
    let same = c.as_slice-lines.ensures.items ∙ ap (λ (v : CertificateValue). v.lines) c.certificate.view_is in
    line-refused cert c.args.pile.now lines same c.loop-line.line-index _ c.in_err-at.field-0.0
    c.from_residual-in_err-at.result (shown c.loop-line.shelf.documents.items c.loop-line.places.items)
    c.place.new.self.documents.items c.from_residual-in_err-at.ensures.1
    (omega (arith, c.loop-line-test.true)) c.loop-line.invariant.read c.in_err-at.ensures.place

pub loop-line-preserved : goal.loop-line-preserved
loop-line-preserved c =
    let cert = c.args.certificate.now in
    let pile = c.args.pile.now in
    let more = line-read cert pile c.as_slice-lines.result.now c.loop-line.line-index _
    c.loop-line.shelf.documents.items c.place.new.self.documents.items c.loop-line.places.items
    c.push.new.self.items c.in_ok-at.at (omega (arith, c.loop-line-test.true)) c.in_ok-at.ensures.longer
    c.loop-line.invariant.are c.loop-line.invariant.read c.in_ok-push.ensures.items c.in_ok-at.ensures.place in
    record {
      offered = subst (λ (o : Offers). IsIndexOf cert.base pile o.firsts o.places) (sym c.place.ensures.offers)
          c.loop-line.invariant.offered;
      shelf = c.in_ok-at.ensures.shelf;
      are = more.0;
      read = more.1;
      named = c.in_ok-at.ensures.name;
      first = subst (λ (ps : List ℕ). slice_get (shown c.place.new.self.documents.items ps) 0
          ≡ slice_get c.place.new.self.documents.items 0) (sym c.in_ok-push.ensures.items)
          (first-more cert pile c.loop-line.shelf.documents.items c.place.new.self.documents.items
          c.loop-line.places.items _ c.in_ok-at.at c.in_ok-at.ensures.longer c.loop-line.invariant.are
          c.in_ok-at.ensures.place c.in_ok-at.ensures.first c.loop-line.invariant.first);
    }

pub invariant_of-result : goal.invariant_of-result
invariant_of-result c =
    let cert = c.args.certificate.now in
    let pile = c.args.pile.now in
    let documents = c.loop-line.shelf.documents.items in
    let places = c.loop-line.places.items in
    let lines = c.as_slice-lines.result.now in
    let same = c.as_slice-lines.ensures.items ∙ ap (λ (v : CertificateValue). v.lines) c.certificate.view_is in
    let all : take c.loop-line.line-index lines ≡ lines =
    take_all c.loop-line.line-index lines (omega (arith, c.loop-line-test.false)) in
    let read = subst (λ (ls : List CoverValue). AreDocuments cert pile ls (shown documents places)) (all ∙ same)
    c.loop-line.invariant.read in
    let cover = subst AreCoverLines (ap (λ (v : CertificateValue). v.lines) c.certificate.view_is)
    c.certificate.invariant in
    chain-of cert pile documents places c.unwrap.result c.loop-line.invariant.are
    (whole-from cert pile (shown documents places) cover read) c.loop-line.invariant.first
    (sym c.unwrap.ensures ∙ c.loop-line.invariant.named)
