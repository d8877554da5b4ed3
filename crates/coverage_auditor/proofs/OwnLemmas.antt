-- A mirror's own certificate over the mirror's own documents.
use Rattle.std.proofs.Common.{inl, inr, None}
use Rattle.std.proofs.Common.{◌≡◌, ℕ, zero, suc, ◌<◌, Bool, true, false, List, [], ◌∷◌, length, get_or, map, Some}
use Rattle.std.proofs.Common.{All, Contains, refl, sym, ap, subst, ◌∙◌, arith}
use Rattle.std.specs.Prelude.{Any, find, option_map}
use Rattle.std.specs.List.{AllZip}
use Rattle.std.specs.Str.{bytes_eq}
use Rattle.std.proofs.lemmas.Bool.{and_from, and_parts, cases_Bool, cond-false, cond-true, false≢true}
use Rattle.std.proofs.lemmas.List.Elements.{All-contains, All-head, All-tail}
use Rattle.std.proofs.lemmas.Option.{same_Some}
use Rattle.std.proofs.lemmas.Slice.Eq.{bytes_eq-Decides}
use Rattle.atom_writer.specs.Doc.{DocValue}
use Rattle.atom_writer.specs.Pieces.{own_address, text}
use Rattle.chain_links.specs.Address.{printed}
use Rattle.chain_links.proofs.AddressLemmas.{same_address}
use Rattle.coverage_certificate.specs.Certificate.{CertificateValue, CoverValue}
use Rattle.coverage_certificate.specs.Digest.{digest_of}
use Rattle.coverage_certificate.specs.Held.{certificate_by, certificate_of}
use Rattle.coverage_certificate.specs.Served.{line_of}
use Rattle.coverage_certificate.proofs.ServedLemmas.{lines-documents}
use Rattle.doc_source.specs.declared.offer.Offer.{Offer}
use Rattle.member_rules.specs.Chain.{IsChain}
use Rattle.member_rules.specs.Shows.{live_count_of}
use Rattle.mirror_walk.specs.Held.{AreHeld, IsAtItsAddress}
use Rattle.mirror_walk.specs.Holding.{KeptValue, archives_from, best_of, chain_of, first_missing}
use Rattle.mirror_walk.proofs.HeldLemmas.{chain-found, found-same, held-chain, loaded-held}
use Rattle.mirror_walk.proofs.MirrorLemmas.{placed-address}
use Rattle.mirror_walk.proofs.OutcomeLemmas.{best-of_whole, chain_of-best}
use Rattle.coverage_auditor.specs.Finding.{HasDocument, is_of_line, offer_of}
use Rattle.coverage_auditor.specs.Links.{digest_by}
use Rattle.coverage_auditor.specs.Own.{IsPileOf, OwnCertificatesAreAccepted, own_offer}
use Rattle.coverage_auditor.specs.Verdict.{AreDocuments, Covers}
use Rattle.coverage_auditor.proofs.UniqueLemmas.{one-verdict}
use Rattle.coverage_auditor.proofs.VerdictLemmas.{covers-verdict}

-- the first offer that passes a test, where only one offer passes it
find-only : (test : Offer → Bool) (pile : List Offer) (offer : Offer)
    → All (λ other. test other ≡ true → other ≡ offer) pile → test offer ≡ true → Contains pile offer
    → find test pile ≡ Some offer
find-only test [] offer only passes (k, within, there) = absurd (omega arith)
find-only test (first ∷ pile) offer only passes (k, within, there) = elim (cases_Bool (test first)) [
  | inl passed ↦
      cond-true (test first) (Some first) (find test pile) passed
      ∙ ap (λ (o : Offer). Some o) (All-head (λ other. test other ≡ true → other ≡ offer) first pile only passed)
  | inr failed ↦
      cond-false (test first) (Some first) (find test pile) failed
      ∙ find-only test pile offer (All-tail (λ other. test other ≡ true → other ≡ offer) first pile only) passes
      (behind k within there failed)
]
  where
    behind : (k : ℕ) → k < length (first ∷ pile) → get_or (first ∷ pile) k offer ≡ offer → test first ≡ false
        → Contains pile offer
    behind zero within there failed = absurd (false≢true (sym failed ∙ ap test there ∙ passes))
    behind (suc k) within there failed = (k, omega arith, there)

zip-lines : (c : CertificateValue) (pile : List Offer) (documents : List DocValue)
    → All (λ document. HasDocument c pile (line_of document) document) documents
    → AllZip (HasDocument c pile) (map line_of documents) documents
zip-lines c pile [] has = tt
zip-lines c pile (document ∷ documents) has = (
  All-head (λ document. HasDocument c pile (line_of document) document) document documents has,
  zip-lines c pile documents
      (All-tail (λ document. HasDocument c pile (line_of document) document) document documents has),
)

-- documents, each of which is the one held at its own address
module _ (base id : List ℕ) (kept : List KeptValue) (documents : List DocValue)
    (found : All (IsAtItsAddress base id kept) documents) (pile : List Offer) (piled : IsPileOf documents pile)
    (c : CertificateValue) (base_is : c.base ≡ base) (feed_is : c.feed ≡ id) where
  own-passes : (document : DocValue) → IsAtItsAddress base id kept document
      → is_of_line c.base (line_of document) (own_offer document) ≡ true
  own-passes document is =
      and_from (bytes_eq (own_offer document).address (printed c.base (own_address document.kind)))
      (bytes_eq (digest_of (text document)) (digest_of (text document)))
      ((bytes_eq-Decides (own_offer document).address (printed c.base (own_address document.kind))).1
      (ap (λ (b : List ℕ). printed b (own_address document.kind)) (is.base_is ∙ sym base_is)))
      ((bytes_eq-Decides (digest_of (text document)) (digest_of (text document))).1 refl)

  -- an offer at the address of one of the documents is that document's
  own-only : (document : DocValue) → IsAtItsAddress base id kept document → (offer : Offer)
      → Any (λ other. offer ≡ own_offer other) documents → is_of_line c.base (line_of document) offer ≡ true
      → offer ≡ own_offer document
  own-only document is offer (k, other, within, there, e) passes =
      let is_other = All-contains (IsAtItsAddress base id kept) documents other found (k, within, there) in
      let parts = and_parts (bytes_eq offer.address (printed c.base (own_address document.kind)))
      (bytes_eq (digest_of offer.bytes) (digest_of (text document))) passes in
      let at = (bytes_eq-Decides offer.address (printed c.base (own_address document.kind))).0 parts.0 in
      let same = same_address base (own_address other.kind) (own_address document.kind)
      (placed-address other.kind other.span other.prev is_other.is_doc.rules.placed)
      (placed-address document.kind document.span document.prev is.is_doc.rules.placed)
      (ap (λ (b : List ℕ). printed b (own_address other.kind)) (sym is_other.base_is)
      ∙ ap (λ (o : Offer). o.address) (sym e) ∙ at
      ∙ ap (λ (b : List ℕ). printed b (own_address document.kind)) base_is) in
      e ∙ ap own_offer (found-same base id kept other document is_other is same)

  has-own : (document : DocValue) → IsAtItsAddress base id kept document → Contains pile (own_offer document)
      → HasDocument c pile (line_of document) document
  unfolding offer_of
  has-own document is offered = record {
    read = record {
      offer = own_offer document;
      found = find-only (is_of_line c.base (line_of document)) pile (own_offer document)
          (λ k d l. own-only document is (get_or pile k d) (piled.only k d l)) (own-passes document is) offered;
      is_doc = is.is_doc;
      text = refl;
    };
    belongs = record { address = refl; base = is.base_is ∙ sym base_is; feed = is.feed ∙ sym feed_is };
  }

  pub all-have : AllZip (HasDocument c pile) (map line_of documents) documents
  all-have = zip-lines c pile documents (λ k d l. has-own (get_or documents k d) (found k d l) (piled.each k d l))

module _ (base : List ℕ) (kept : List KeptValue) (held : AreHeld base kept) (whole : first_missing kept ≡ None)
    (pile : List Offer) (piled : IsPileOf (chain_of kept) pile) (best : KeptValue) (e : best_of kept ≡ Some best) where
  best-feed : best.document.name.id ≡ held.id
  best-feed =
      let found = subst (All (IsAtItsAddress base held.id kept)) (chain_of-best kept best e)
      (chain-found base kept held) in
      (All-head (IsAtItsAddress base held.id kept) best.document (archives_from kept best.document.prev) found).feed

  own-covers : Covers (certificate_by base kept best) pile
  unfolding certificate_by
  own-covers =
      let c = certificate_by base kept best in
      let documents = chain_of-best kept best e in
      record {
        newest = best.document;
        others = archives_from kept best.document.prev;
        read = subst (AreDocuments c pile c.lines) documents
            (subst (λ (lines : List CoverValue). AreDocuments c pile lines (chain_of kept))
            (sym (lines-documents base kept held best e))
            (all-have base held.id kept (chain_of kept) (chain-found base kept held) pile piled c refl best-feed));
        version = refl;
        chain = subst IsChain documents (held-chain base kept held whole);
        count = ap live_count_of (sym documents);
        digest = ap (digest_by best.document) (sym documents);
      }

-- the certificate, from the best document
made-by : (base : List ℕ) (kept : List KeptValue) (best : KeptValue) (c : CertificateValue) → best_of kept ≡ Some best
    → certificate_of base kept ≡ Some c → certificate_by base kept best ≡ c
unfolding certificate_of
made-by base kept best c e made =
    same_Some (certificate_by base kept best) c (sym (ap (option_map (certificate_by base kept)) e) ∙ made)

pub own-accepted : OwnCertificatesAreAccepted
own-accepted base payloads kept c pile loaded whole made piled =
    let best = best-of_whole kept whole in
    let covers = subst (λ (v : CertificateValue). Covers v pile) (made-by base kept best.0 c best.1 made)
    (own-covers base kept (loaded-held base payloads kept loaded) whole pile piled best.0 best.1) in
    record {
      covers = covers;
      verdict = λ verdict is. one-verdict c pile verdict _ is (covers-verdict c pile covers);
    }
