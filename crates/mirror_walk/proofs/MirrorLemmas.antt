-- The law of a mirror: it shows the documents that one feed served.
use Rattle.std.proofs.Common.{◌≡◌, ℕ, ◌<◌, ◌≤◌, ◌^◌, List, [], ◌∷◌, Any, Contains, Option}
use Rattle.std.proofs.Common.{Some, None}
use Rattle.std.proofs.Common.{IsSome, IsTrue, IsOk, option_map, take, refl, ap, ap₂, sym}
use Rattle.std.proofs.Common.{subst}
use Rattle.std.proofs.Common.{◌∙◌, arith}
use Rattle.std.proofs.lemmas.Bool.Decides.{nat_tests}
use Rattle.std.proofs.lemmas.List.Elements.{All-contains}
use Rattle.atom_writer.specs.Doc.{DocValue, IsDoc, is_placed}
use Rattle.atom_writer.specs.Pieces.{own_address}
use Rattle.atom_writer.specs.declared.doc.Kind.{Kind}
use Rattle.atom_writer.specs.declared.doc.Kind.TheVariants.{Subscription, Archive as Sealed}
use Rattle.chain_links.specs.Address.{IsAddress, printed}
use Rattle.chain_links.specs.declared.address.Address.TheVariants.{Feed, Archive}
use Rattle.chain_links.specs.declared.place.Span.{Span}
use Rattle.chain_links.proofs.AddressLemmas.{same_address}
use Rattle.member_rules.specs.declared.operation.Op.{Op}
use Rattle.member_rules.specs.Head.{HeadValue, IsHead}
use Rattle.member_rules.specs.History.{IsLawful}
use Rattle.member_rules.specs.Windows.{windows_of}
use Rattle.member_rules.specs.Documents.{archive, subscription}
use Rattle.member_rules.specs.Chain.{ShowsTheFold, chain, down_from, chain_of as cut_chain}
use Rattle.member_rules.specs.Served.{Served}
use Rattle.member_rules.proofs.LawLemmas.{law-of_chain}
use Rattle.member_rules.proofs.ServedLemmas.{prefix-lawful}
use Rattle.mirror_walk.specs.Accept.{Answer, IsAnswer}
use Rattle.mirror_walk.specs.Holding.{KeptValue, archive_at, archives_from, best_of, chain_of, first_missing}
use Rattle.mirror_walk.specs.Holding.{gap_from}
use Rattle.mirror_walk.specs.Offers.{Offering, AreAnswered, AreServed, AreTakenOf, IsArchiveOffered}
use Rattle.mirror_walk.specs.Offers.{IsOffered}
use Rattle.mirror_walk.specs.Laws.{IsMissingOf, LawOfTheMirror, ShowsBest, ShowsNone, ShowsServed}
use Rattle.mirror_walk.specs.Laws.{ShowsVersion}
use Rattle.mirror_walk.proofs.AcceptedLemmas.{IsHeldOf}
use Rattle.mirror_walk.proofs.FeedDocumentLemmas.{IsVersionOf, archive-of, archive-past}
use Rattle.mirror_walk.proofs.FeedDocumentLemmas.{served-reading, subscription-prev, version-of}
use Rattle.mirror_walk.proofs.FoundLemmas.{Covers, archive_at-holds, archives_from-whole, best_of-holds}
use Rattle.mirror_walk.proofs.GapLemmas.{gap-found, gap-none}
use Rattle.mirror_walk.proofs.OfferedLemmas.{IsOfferOf, Mirrors, answer-mirrored, offers-mirrored}
use Rattle.mirror_walk.proofs.OfferedLemmas.{same-reading}
use Rattle.mirror_walk.proofs.OutcomeLemmas.{chain_of-best}

-- the documents that were offered

served-at : (head : HeadValue) (history : List Op) (offers : List Offering) (offer : Offering)
    → AreServed head history offers → Contains offers offer → Served head history offer.address offer.bytes
served-at head history offers offer served there =
    All-contains (λ (o : Offering). Served head history o.address o.bytes) offers offer served there

document-offered : (head : HeadValue) (history : List Op) (offers : List Offering) (document : DocValue)
    → AreServed head history offers → IsOffered offers document → Any (IsOfferOf head history document) offers
document-offered head history offers document served offered =
    let (k, offer, within, there, e) = offered.there in
    let is_served = served-at head history offers offer served (k, within, there) in
    let found = served-reading head history offer.address offer.bytes is_served in
    let same = same-reading head history offer.address offer.bytes found.0 document found.1 offered.is_doc e
    in
    (k, offer, within, there, subst (λ (d : DocValue). IsOfferOf head history d offer) same found.1)

archive-offered : (head : HeadValue) (history : List Op) (offers : List Offering) (document : DocValue)
    (number : ℕ)
    → document.kind ≡ Sealed number → Any (IsOfferOf head history document) offers
    → IsArchiveOffered head.name.base offers number
archive-offered head history offers document number e (k, offer, within, there, reading) =
    let at = reading.there ∙ ap (λ (kind : Kind). printed head.name.base (own_address kind)) e in
    (k, offer, within, there, at)

-- a document at the address of an archive is that archive

pub placed-address : (kind : Kind) (span : Span) (prev : ℕ) → IsTrue (is_placed kind span prev)
    → IsAddress (own_address kind)
placed-address Subscription span prev placed = tt
placed-address (Sealed number) span prev placed = grind (arith, nat_tests)

pub address-archive : (kind : Kind) (number : ℕ) → own_address kind ≡ Archive number → kind ≡ Sealed number
address-archive Subscription number e = cc
address-archive (Sealed other) number e = cc

archive-there : (base : List ℕ) (document : DocValue) (number : ℕ) → IsDoc document → 1 ≤ number
    → number < 2 ^ 32
    → printed base (own_address document.kind) ≡ printed base (Archive number) → document.kind ≡ Sealed number
archive-there base document number is_doc one small e =
    address-archive document.kind number (same_address base (own_address document.kind) (Archive number)
    (placed-address document.kind document.span document.prev is_doc.rules.placed) (one, small) e)

pub option_map-none : (gap : Option ℕ) → option_map Archive gap ≡ None → gap ≡ None
option_map-none None e = refl
option_map-none (Some number) e = absurd (cc)

module _ (head : HeadValue) (history : List Op) (offers : List Offering) (kept : List KeptValue)
    (served : AreServed head history offers) (mirrors : Mirrors head history offers kept) where
  archive-covered : (number : ℕ) → 1 ≤ number → number < 2 ^ 32
      → IsArchiveOffered head.name.base offers number
      → IsSome (archive_at kept number)
  archive-covered number one small (k, offer, within, there, at) =
      let is_served = served-at head history offers offer served (k, within, there) in
      let found = served-reading head history offer.address offer.bytes is_served in
      let kind = archive-there head.name.base found.0 number found.1.is_doc one small (sym found.1.there ∙ at)
      in
      subst (Covers kept found.0.span.last) kind
      (mirrors.covered found.0 (k, offer, within, there, found.1))

  held-offered : (number : ℕ) → IsSome (archive_at kept number)
      → IsArchiveOffered head.name.base offers number
  held-offered number = go (archive_at kept number) refl
    where
      go : (o : Option KeptValue) → archive_at kept number ≡ o → IsSome o
          → IsArchiveOffered head.name.base offers number
      go None e some = absurd (cc)
      go (Some held) e some =
          let found = archive_at-holds (λ (k : KeptValue). Any (IsOfferOf head history k.document) offers)
          kept number held
          mirrors.offered e in
          archive-offered head history offers held.document number found.1 found.0

  -- the missing document

  missing-of : (prev : ℕ) → prev < 2 ^ 32 → (gap : Option ℕ) → gap_from kept prev ≡ gap
      → IsMissingOf head.name.base offers prev (option_map Archive gap)
  missing-of prev small None e = λ number one within. held-offered number
      (gap-none kept prev e number one within)
  missing-of prev small (Some at) e =
      let gap = gap-found kept prev at e in
      record {
        needed = (gap.one, gap.within);
        not_offered = λ offered.
            let some = archive-covered at gap.one (omega (arith, gap.within)) offered in
            absurd (cc (gap.free, some));
        greatest = λ other above within. held-offered other (gap.held other above within);
      }

  first_missing-none : best_of kept ≡ None → first_missing kept ≡ Some Feed
  unfolding first_missing
  first_missing-none e = rw e refl

  first_missing-best : (best : KeptValue) → best_of kept ≡ Some best
      → first_missing kept ≡ option_map Archive (gap_from kept best.document.prev)
  unfolding first_missing
  first_missing-best best e = rw e refl

  shows-none : best_of kept ≡ None → ShowsNone offers kept
  shows-none e = record {
    none_offered = λ document offered is_kind.
        let covers = mirrors.covered document (document-offered head history offers document served offered)
        in
        let some : Covers kept document.span.last Subscription =
        subst (Covers kept document.span.last) is_kind covers in
        rw e at some;
    missing = first_missing-none e;
  }

  -- the chain of what is held, where nothing is missing

  chain-documents : (operations : List Op) → chain head operations
      ≡ subscription head operations ∷ down_from (archive head operations) (windows_of head operations).sealed
  unfolding chain cut_chain subscription archive
  chain-documents operations = refl

  archive-held : (number : ℕ) → IsSome (archive_at kept number)
      → option_map (λ (k : KeptValue). k.document) (archive_at kept number) ≡ Some
      (archive head history number)
  archive-held number = go (archive_at kept number) refl
    where
      go : (o : Option KeptValue) → archive_at kept number ≡ o → IsSome o
          → option_map (λ (k : KeptValue). k.document) o ≡ Some (archive head history number)
      go None e some = absurd (cc)
      go (Some held) e some =
          let found = archive_at-holds (IsHeldOf head history) kept number held mirrors.held e in
          ap Some (archive-of head history held.document number found.1 found.0.of_feed).same

  whole-chain : (best : KeptValue) (version : ℕ) → IsHead head → best_of kept ≡ Some best
      → IsVersionOf head history version best.document
      → ((number : ℕ) → 1 ≤ number → number ≤ best.document.prev → IsSome (archive_at kept number))
      → chain_of kept ≡ chain head (take version history)
  whole-chain best version is_head e is_version held =
      let past = take version history in
      let sealed = (windows_of head past).sealed in
      let prev : best.document.prev ≡ sealed =
      ap (λ (d : DocValue). d.prev) is_version.same ∙ subscription-prev head past in
      let older : archives_from kept best.document.prev ≡ down_from (archive head past) best.document.prev =
      archives_from-whole kept (archive head past) best.document.prev (λ number one within.
      let is_sealed : number ≤ sealed = omega (arith, prev, within) in
      archive-held number (held number one within)
      ∙ ap Some (sym (archive-past head history version number is_head is_version.past is_sealed))) in
      chain_of-best kept best e
      ∙ ap₂ (λ (newest : DocValue) (others : List DocValue). newest ∷ others) is_version.same
      (older ∙ ap (down_from (archive head past)) prev)
      ∙ sym (chain-documents past)

  shows-version : (best : KeptValue) → IsHead head → IsLawful head history → best_of kept ≡ Some best
      → gap_from kept best.document.prev ≡ None
      → ShowsVersion head history best.document.span.last (chain_of kept)
  shows-version best is_head lawful e none =
      let last = best.document.span.last in
      let past = take last history in
      let found = best_of-holds (IsHeldOf head history) kept best mirrors.held e in
      let version = version-of head history best.document found.1 found.0.of_feed in
      let same = whole-chain best last is_head e version (gap-none kept best.document.prev none) in
      record {
        past = version.past;
        whole_chain = same;
        fold = subst (λ (documents : List DocValue). ShowsTheFold documents past) (sym same)
            (law-of_chain head past is_head (prefix-lawful head history last lawful));
      }

  -- the documents held with a best subscription document

  best-offered : (best : KeptValue) → best_of kept ≡ Some best
      → Any (IsOfferOf head history best.document) offers × (best.document.kind ≡ Subscription)
  best-offered best e =
      best_of-holds (λ (k : KeptValue). Any (IsOfferOf head history k.document) offers) kept best
      mirrors.offered e

  best-greatest : (best : KeptValue) → best_of kept ≡ Some best → (document : DocValue)
      → IsOffered offers document
      → document.kind ≡ Subscription → document.span.last ≤ best.document.span.last
  best-greatest best e document offered is_kind =
      let covers = subst (Covers kept document.span.last) is_kind
      (mirrors.covered document (document-offered head history offers document served offered)) in
      rw e at covers

  shows-best : (best : KeptValue) → best_of kept ≡ Some best → ShowsBest head history offers kept best
  shows-best best e =
      let offered = best-offered best e in
      let (k, offer, within, there, reading) = offered.0 in
      let is_served = served-at head history offers offer served (k, within, there) in
      let prev = best.document.prev in
      let first = first_missing-best best e in
      record {
        newest = record {
          offered = record { is_doc = reading.is_doc; there = (k, offer, within, there, reading.text) };
          kind = offered.1;
          greatest = best-greatest best e;
        };
        missing = subst (IsMissingOf head.name.base offers prev) (sym first)
            (missing-of prev reading.is_doc.prev (gap_from kept prev) refl);
        live = λ whole. shows-version best is_served.is_head is_served.is_lawful e
            (option_map-none (gap_from kept prev) (sym first ∙ whole));
      }

  mirrors-shows : ShowsServed head history offers kept (best_of kept)
  mirrors-shows = go (best_of kept) refl
    where
      go : (best : Option KeptValue) → best_of kept ≡ best → ShowsServed head history offers kept best
      go None e = shows-none e
      go (Some best) e = shows-best best e

pub law-of_mirror : LawOfTheMirror
law-of_mirror head history offers answers kept served answered =
    let mirrored = offers-mirrored head history offers answers kept served answered in
    record { accepted = mirrored.0; shows = mirrors-shows head history offers kept served mirrored.1 }

-- the clauses `served`

pub taken-mirrored : (base : List ℕ) (kept : List KeptValue) (head : HeadValue) (history : List Op)
    (offers : List Offering)
    → base ≡ head.name.base → AreServed head history offers → AreTakenOf base offers kept
    → Mirrors head history offers kept
taken-mirrored base kept head history offers same served taken =
    (offers-mirrored head history offers taken.answers kept served
    (subst (λ (b : List ℕ). AreAnswered b [] offers taken.answers kept) same taken.answered)).1

-- `Mirror::outcome`: what is held of documents that one feed served
pub taken_are_shown : (base : List ℕ) (kept : List KeptValue) (head : HeadValue) (history : List Op)
    (offers : List Offering)
    → base ≡ head.name.base → AreServed head history offers → AreTakenOf base offers kept
    → ShowsServed head history offers kept (best_of kept)
taken_are_shown base kept head history offers same served taken =
    mirrors-shows head history offers kept served (taken-mirrored base kept head history offers same served
    taken)

-- each answer to one more document that the feed served is `Ok`
pub served_is_accepted : (base : List ℕ) (kept : List KeptValue) (address bytes : List ℕ) (answer : Answer)
    (left : List KeptValue) → IsAnswer base kept address bytes answer left
    → (head : HeadValue) (history : List Op) (offers : List Offering) → base ≡ head.name.base
    → AreServed head history offers → AreTakenOf base offers kept → Served head history address bytes
    → IsOk answer
served_is_accepted base kept address bytes answer left is_answer head history offers same served taken there =
    (answer-mirrored head history offers kept left (record { address = address; bytes = bytes }) answer
    (taken-mirrored base kept head history offers same served taken) there
    (subst (λ (b : List ℕ). IsAnswer b kept address bytes answer left) same is_answer)).0
