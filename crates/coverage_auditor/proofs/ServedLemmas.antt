-- An accepted certificate over documents that one feed served.
use Rattle.std.proofs.Common.{◌≡◌, ℕ, zero, suc, ◌-◌, ◌≤◌, Bool, true, false, cond, List, [], ◌∷◌}
use Rattle.std.proofs.Common.{Some, None, IsTrue, take, map, refl, sym, ap, ap₂, subst, ◌∙◌, arith}
use Rattle.std.specs.Prelude.{All, find}
use Rattle.std.proofs.lemmas.Bool.Decides.{nat_tests}
use Rattle.std.proofs.lemmas.List.Elements.{All-cons, All-head, All-nil, All-tail}
use Rattle.std.proofs.lemmas.Option.{same_Some}
use Rattle.atom_grammar.proofs.RefusalLemmas.{one_reading}
use Rattle.atom_values.specs.Entry.{EntryValue}
use Rattle.atom_writer.specs.Doc.{DocValue, IsDoc, is_placed}
use Rattle.atom_writer.specs.Pieces.{own_address}
use Rattle.atom_writer.specs.declared.doc.FeedName.{FeedName}
use Rattle.atom_writer.specs.declared.doc.Kind.{Kind}
use Rattle.atom_writer.specs.declared.doc.Kind.TheVariants.{Subscription, Archive as Sealed}
use Rattle.chain_links.specs.declared.address.Address.TheVariants.{Feed}
use Rattle.chain_links.specs.declared.place.Span.{Span}
use Rattle.coverage_certificate.specs.Certificate.{AreCoverLines, CertificateValue, CoverValue}
use Rattle.coverage_certificate.specs.Live.{live_digest_of}
use Rattle.doc_source.specs.declared.offer.Offer.{Offer}
use Rattle.member_rules.specs.declared.operation.Op.{Op}
use Rattle.member_rules.specs.Chain.{IsChain, ShowsTheFold, chain, chain_of as cut_chain, down_from}
use Rattle.member_rules.specs.Documents.{archive, document_of, name_of, subscription, subscription_of}
use Rattle.member_rules.specs.Fold.{live_count}
use Rattle.member_rules.specs.Head.{HeadValue, IsHead}
use Rattle.member_rules.specs.Served.{Served}
use Rattle.member_rules.specs.Windows.{windows_of}
use Rattle.member_rules.proofs.LawLemmas.{law-of_chain}
use Rattle.member_rules.proofs.ServedLemmas.{prefix-lawful}
use Rattle.mirror_walk.specs.Laws.{ShowsVersion}
use Rattle.mirror_walk.specs.Offers.{Offering}
use Rattle.mirror_walk.proofs.FeedDocumentLemmas.{IsOfFeed, archive-of, archive-past}
use Rattle.mirror_walk.proofs.FeedDocumentLemmas.{served-reading, subscription-prev, version-of}
use Rattle.mirror_walk.proofs.MirrorLemmas.{address-archive}
use Rattle.coverage_certificate.specs.Served.{fold_entries}
use Rattle.coverage_certificate.proofs.ServedLemmas.{live_digest-named, shown-entries}
use Rattle.coverage_auditor.specs.Certified.{IsServedPile, ShowsCertified, offering_of}
use Rattle.coverage_auditor.specs.Finding.{HasDocument, offer_of}
use Rattle.coverage_auditor.specs.Verdict.{AreDocuments, Covers}

found-holds : (P : Offering → Type 0) (p : Offer → Bool) (pile : List Offer) (offer : Offer)
    → All P (map offering_of pile) → find p pile ≡ Some offer → P (offering_of offer)
found-holds P p [] offer all e = absurd (none e)
  where
    none : None ≡ Some offer → ⊥
    none e = cc
found-holds P p (first ∷ pile) offer all e =
    split (p first) (found-holds P p pile offer (All-tail P (offering_of first) (map offering_of pile) all)) e
  where
    split : (b : Bool) → (find p pile ≡ Some offer → P (offering_of offer))
        → cond b (Some first) (find p pile) ≡ Some offer → P (offering_of offer)
    split true later e =
        subst (λ (o : Offer). P (offering_of o)) (same_Some first offer e)
        (All-head P (offering_of first) (map offering_of pile) all)
    split false later e = later e

-- the parts of documents

first-one : (kind : Kind) (span : Span) (prev : ℕ) → IsTrue (is_placed kind span prev) → span.first ≡ 1 → prev ≡ 0
first-one Subscription span prev placed first = grind (arith, nat_tests)
first-one (Sealed number) span prev placed first = grind (arith, nat_tests)

prev-of : (kind : Kind) (span : Span) (prev number : ℕ) → IsTrue (is_placed kind span prev) → kind ≡ Sealed number
    → prev ≡ number - 1
prev-of Subscription span prev number placed e = absurd (none e)
  where
    none : Subscription ≡ Sealed number → ⊥
    none e = cc
prev-of (Sealed other) span prev number placed e =
    let same : other ≡ number = cc in
    let is : prev ≡ other - 1 = grind (arith, nat_tests) in
    is ∙ ap (λ n. n - 1) same

kind-feed : (kind : Kind) → own_address kind ≡ Feed → kind ≡ Subscription
kind-feed Subscription e = refl
kind-feed (Sealed number) e = absurd (none e)
  where
    none : own_address (Sealed number) ≡ Feed → ⊥
    none e = cc

down-same : (f g : ℕ → DocValue) (k : ℕ) → ((n : ℕ) → 1 ≤ n → n ≤ k → f n ≡ g n) → down_from f k ≡ down_from g k
down-same f g zero same = refl
down-same f g (suc k) same =
    ap₂ (λ (d : DocValue) (ds : List DocValue). d ∷ ds) (same (suc k) (omega arith) (omega arith))
    (down-same f g k (λ n low high. same n low (omega arith)))

chain-tail : (newer older : DocValue) (more : List DocValue) → IsChain (newer ∷ older ∷ more)
    → IsChain (older ∷ more)
chain-tail newer older more chain = record {
  adjoined = λ before after a b e. chain.adjoined (newer ∷ before) after a b
      (ap (λ (ds : List DocValue). newer ∷ ds) e);
  whole = λ before oldest e. chain.whole (newer ∷ before) oldest (ap (λ (ds : List DocValue). newer ∷ ds) e);
}

module _ (head : HeadValue) (history : List Op) where
  -- a document of the feed
  pub record IsOf (document : DocValue) : Type 0 where
    pub is_doc : IsDoc document
    pub of_feed : IsOfFeed head history document

  older-archives : (newer : DocValue) (others : List DocValue) → IsOf newer → All IsOf others
      → IsChain (newer ∷ others) → others ≡ down_from (archive head history) newer.prev
  older-archives newer [] is_newer are chain =
      let prev = first-one newer.kind newer.span newer.prev is_newer.is_doc.rules.placed (chain.whole [] newer refl) in
      sym (ap (down_from (archive head history)) prev)
  older-archives newer (older ∷ more) is_newer are chain =
      let is_older = All-head IsOf older more are in
      let named = (chain.adjoined [] more newer older refl).named in
      let kind = address-archive older.kind newer.prev named in
      let is = archive-of head history older newer.prev kind is_older.of_feed in
      let prev = prev-of older.kind older.span older.prev newer.prev is_older.is_doc.rules.placed kind in
      let one : newer.prev ≡ suc (newer.prev - 1) = omega (arith, is.of_sealed.0) in
      let rest = older-archives older more is_older (All-tail IsOf older more are)
      (chain-tail newer older more chain) in
      let first : older ≡ archive head history (suc (newer.prev - 1)) = is.same ∙ ap (archive head history) one in
      ap₂ (λ (d : DocValue) (ds : List DocValue). d ∷ ds) first
      (rest ∙ ap (down_from (archive head history)) prev)
      ∙ sym (ap (down_from (archive head history)) one)

  chain-documents : (operations : List Op) → chain head operations
      ≡ subscription head operations ∷ down_from (archive head operations) (windows_of head operations).sealed
  unfolding chain cut_chain subscription archive
  chain-documents operations = refl

  whole-chain : (newest : DocValue) (others : List DocValue) → IsHead head → IsOf newest → All IsOf others
      → newest.kind ≡ Subscription → IsChain (newest ∷ others)
      → newest ∷ others ≡ chain head (take newest.span.last history)
  whole-chain newest others is_head is_newest are kind chain =
      let version = newest.span.last in
      let past = take version history in
      let is_version = version-of head history newest kind is_newest.of_feed in
      let sealed = (windows_of head past).sealed in
      let prev : newest.prev ≡ sealed =
      ap (λ (d : DocValue). d.prev) is_version.same ∙ subscription-prev head past in
      let older = older-archives newest others is_newest are chain
      ∙ ap (down_from (archive head history)) prev
      ∙ sym (down-same (archive head past) (archive head history) sealed
      (λ n low high. archive-past head history version n is_head is_version.past high)) in
      ap₂ (λ (d : DocValue) (ds : List DocValue). d ∷ ds) is_version.same older ∙ sym (chain-documents past)

  -- the documents of the lines

  module _ (c : CertificateValue) (pile : List Offer) (served : IsServedPile head history pile) where
    served-of : (line : CoverValue) (document : DocValue) (has : HasDocument c pile line document)
        → Served head history has.read.offer.address has.read.offer.bytes
    unfolding offer_of
    served-of line document has =
        found-holds (λ (o : Offering). Served head history o.address o.bytes) _ pile has.read.offer served
        has.read.found

    is-of : (line : CoverValue) (document : DocValue) → HasDocument c pile line document → IsOf document
    is-of line document has =
        let offer = has.read.offer in
        let found = served-reading head history offer.address offer.bytes (served-of line document has) in
        let same = one_reading found.0 document found.1.is_doc has.read.is_doc (sym found.1.text ∙ has.read.text) in
        record { is_doc = has.read.is_doc; of_feed = subst (IsOfFeed head history) same found.1.of_feed }

    are-of : (lines : List CoverValue) (documents : List DocValue) → AreDocuments c pile lines documents
        → All IsOf documents
    are-of [] [] all = All-nil IsOf
    are-of [] (d ∷ documents) all = absurd all
    are-of (line ∷ lines) [] all = absurd all
    are-of (line ∷ lines) (d ∷ documents) all =
        All-cons IsOf d documents (is-of line d all.0) (are-of lines documents all.1)

    name-of : (operations : List Op) → (subscription head operations).name ≡ name_of head operations
    unfolding subscription subscription_of document_of
    name-of operations = refl

    -- the first line
    record First (newest : DocValue) : Type 0 where
      pub line : CoverValue
      pub feed : line.address ≡ Feed
      pub has : HasDocument c pile line newest

    first-of : (lines : List CoverValue) (newest : DocValue) (others : List DocValue) → AreCoverLines lines
        → AreDocuments c pile lines (newest ∷ others) → First newest
    first-of [] newest others are all = absurd are
    first-of (line ∷ lines) newest others are all = record { line = line; feed = are.0; has = all.0 }

    pub covers-served : AreCoverLines c.lines → Covers c pile → ShowsCertified head history c pile
    covers-served lines covers =
        let newest = covers.newest in
        let others = covers.others in
        let documents = newest ∷ others in
        let first = first-of c.lines newest others lines covers.read in
        let is_served = served-of first.line newest first.has in
        let are = are-of c.lines documents covers.read in
        let kind = kind-feed newest.kind (first.has.belongs.address ∙ first.feed) in
        let is_newest = All-head IsOf newest others are in
        let is_version = version-of head history newest kind is_newest.of_feed in
        let same = whole-chain newest others is_served.is_head is_newest (All-tail IsOf newest others are) kind
        covers.chain in
        let past = take newest.span.last history in
        let lawful = prefix-lawful head history newest.span.last is_served.is_lawful in
        let fold = subst (λ (ds : List DocValue). ShowsTheFold ds past) (sym same)
        (law-of_chain head past is_served.is_head lawful) in
        let shows : ShowsVersion head history newest.span.last documents =
        record { past = is_version.past; whole_chain = same; fold = fold } in
        let name : newest.name ≡ name_of head past =
        ap (λ (d : DocValue). d.name) is_version.same ∙ name-of past in
        record {
          documents = documents;
          read = covers.read;
          shows = subst (λ (v : ℕ). ShowsVersion head history v documents) covers.version shows;
          count = sym covers.count ∙ fold.count ∙ ap (λ (v : ℕ). live_count (take v history)) covers.version;
          digest = sym covers.digest
              ∙ ap₂ (λ (n : FeedName) (es : List EntryValue). live_digest_of n es) name
              (shown-entries head documents past lawful fold)
              ∙ live_digest-named head past (fold_entries past)
              ∙ ap (λ (v : ℕ). live_digest_of head.name (fold_entries (take v history))) covers.version;
        }
