-- The entries that a mirror shows, and its certificate.
use Rattle.std.proofs.Common.{◌≡◌, ℕ, List, Option, Some, None, IsSome, map, option_map, take, refl, sym, ap, subst}
use Rattle.std.proofs.Common.{◌∙◌}
use Rattle.std.proofs.lemmas.Option.{same_Some}
use Rattle.chain_links.specs.declared.address.Address.{Address}
use Rattle.coverage_certificate.specs.Certificate.{CertificateValue}
use Rattle.coverage_certificate.specs.Held.{certificate_by, certificate_of, with_digest}
use Rattle.coverage_certificate.specs.Served.{served_certificate}
use Rattle.feed_disk.specs.Memory.{MemoryValue, state_of}
use Rattle.feed_disk.specs.Moments.{LeavesAlone, NowOnly}
use Rattle.feed_disk.specs.declared.area.Area.TheVariants.{Mirror as MirrorArea}
use Rattle.feed_life.specs.Mirrors.{IsCertified, IsOpenedMirror, IsShown, ShowsHistory}
use Rattle.feed_life.proofs.OpenedLemmas.{opened-offered}
use Rattle.member_rules.specs.Head.{HeadValue}
use Rattle.member_rules.specs.Shows.{live_count_of}
use Rattle.member_rules.specs.declared.operation.Op.{Op}
use Rattle.mirror_walk.specs.declared.answer.Outcome.{Outcome}
use Rattle.mirror_walk.specs.declared.answer.Outcome.TheVariants.{Complete, Missing}
use Rattle.mirror_walk.specs.Holding.{KeptValue, best_of, chain_of, first_missing}
use Rattle.mirror_walk.specs.Laws.{ShowsServed, ShowsVersion}
use Rattle.mirror_walk.specs.Listing.{outcome_of}
use Rattle.mirror_walk.specs.Loaded.{own_offer}
use Rattle.mirror_walk.specs.Mirror.{MirrorValue}
use Rattle.mirror_walk.specs.Offers.{AreServed, AreTakenOf, Offering}
use Rattle.mirror_walk.specs.Published.{HoldsServed}
use Rattle.mirror_walk.proofs.OutcomeLemmas.{best-of_whole, outcome-complete, outcome-missing}

-- a complete mirror has a best document, and misses none
pub record IsWholeOutcome (kept : List KeptValue) (version live : ℕ) : Type 0 where
  pub best : KeptValue
  pub is_best : best_of kept ≡ Some best
  pub whole : first_missing kept ≡ None
  pub version_is : version ≡ best.document.span.last
  pub live_is : live ≡ live_count_of (chain_of kept)

pub complete-whole : (kept : List KeptValue) (version live : ℕ) → outcome_of kept ≡ Complete version live
    → IsWholeOutcome kept version live
complete-whole kept version live is = go (first_missing kept) refl
  where
    go : (missing : Option Address) → first_missing kept ≡ missing → IsWholeOutcome kept version live
    go (Some address) e =
        let other : Missing address ≡ Complete version live = sym (outcome-missing kept address e) ∙ is in absurd (cc)
    go None e =
        let (best, found) = best-of_whole kept e in
        let same : Complete best.document.span.last (live_count_of (chain_of kept)) ≡ Complete version live =
        sym (outcome-complete kept best found e) ∙ is in
        record {
          best = best;
          is_best = found;
          whole = e;
          version_is = cc;
          live_is = cc;
        }

pub complete-some : (kept : List KeptValue) (version live : ℕ) → outcome_of kept ≡ Complete version live
    → IsSome (best_of kept)
complete-some kept version live is = rw (complete-whole kept version live is).is_best refl

-- a mirror that isn't complete misses a document
pub missing-some : (kept : List KeptValue) (address : Address) → outcome_of kept ≡ Missing address
    → ¬ (first_missing kept ≡ None)
missing-some kept address is none =
    let (best, found) = best-of_whole kept none in
    let other : Complete best.document.span.last (live_count_of (chain_of kept)) ≡ Missing address =
    sym (outcome-complete kept best found none) ∙ is in
    cc

-- the documents of a feed show its history
pub served-shows : (head : HeadValue) (history : List Op) (offers : List Offering) (kept : List KeptValue)
    → ShowsServed head history offers kept (best_of kept) → ShowsHistory head history kept (outcome_of kept)
served-shows head history offers kept shows version live is =
    let found = complete-whole kept version live is in
    let best = found.best in
    let shown = (subst (ShowsServed head history offers kept) found.is_best shows).live found.whole in
    let at = subst (λ (v : ℕ). ShowsVersion head history v (chain_of kept)) (sym found.version_is) shown in
    (at, found.live_is ∙ at.fold.count)

pub mirror-shown : (head : HeadValue) (history : List Op) (kept : List KeptValue) (disk : MemoryValue)
    (mirror : MirrorValue) (outcome : Outcome) → IsOpenedMirror head kept disk mirror
    → AreServed head history (map own_offer kept) → outcome ≡ outcome_of mirror.kept
    → ((h : HeadValue) (l : List Op) (offers : List Offering) → mirror.base ≡ h.name.base → AreServed h l offers
    → AreTakenOf mirror.base offers mirror.kept → ShowsServed h l offers mirror.kept (best_of mirror.kept))
    → IsShown head history kept outcome
mirror-shown head history kept disk mirror outcome opened served is shows =
    let offers = map own_offer kept in
    let shown = subst (λ (l : List KeptValue). ShowsServed head history offers l (best_of l)) opened.kept_is
    (shows head history offers opened.base served (opened-offered head kept disk mirror opened)) in
    let same = is ∙ ap outcome_of opened.kept_is in
    record {
      outcome_is = same;
      shows = subst (ShowsHistory head history kept) (sym same) (served-shows head history offers kept shown);
    }

-- the numbers of a certificate
made-numbers : (base : List ℕ) (digest : List ℕ) (kept : List KeptValue) (made : CertificateValue)
    → option_map (with_digest digest) (certificate_of base kept) ≡ Some made → (version live : ℕ)
    → outcome_of kept ≡ Complete version live → outcome_of kept ≡ Complete made.version made.live_count
unfolding certificate_of certificate_by
made-numbers base digest kept made parts version live is =
    let found = complete-whole kept version live is in
    let best = found.best in
    let same : with_digest digest (certificate_by base kept best) ≡ made =
    same_Some (with_digest digest (certificate_by base kept best)) made
    (sym (ap (λ (b : Option KeptValue). option_map (with_digest digest) (option_map (certificate_by base kept) b))
    found.is_best) ∙ parts) in
    outcome-complete kept best found.is_best found.whole
    ∙ ap (λ (c : CertificateValue). Complete c.version c.live_count) same

-- the certificate of the documents held is the feed's own at its version
pub mirror-certified : (head : HeadValue) (history : List Op) (kept : List KeptValue) (mirror : MirrorValue)
    (made : CertificateValue) (version live : ℕ) → mirror.base ≡ head.name.base → mirror.kept ≡ kept
    → AreServed head history (map own_offer kept) → outcome_of mirror.kept ≡ Complete version live
    → option_map (with_digest made.live_digest) (certificate_of made.base mirror.kept) ≡ Some made
    → ((h : HeadValue) (l : List Op) → mirror.base ≡ h.name.base → HoldsServed h l mirror.kept
    → made ≡ served_certificate h (take made.version l)) → IsCertified head history kept (Some made)
mirror-certified head history kept mirror made version live base same served is parts certified = (
  made-numbers made.base made.live_digest kept made
      (subst
      (λ (l : List KeptValue). option_map (with_digest made.live_digest) (certificate_of made.base l) ≡ Some made)
      same parts) version live (sym (ap outcome_of same) ∙ is),
  certified head history base (subst (λ (l : List KeptValue). HoldsServed head history l) (sym same) served),
)

-- a disk whose areas stay
pub alone-loads : (s t : MemoryValue) (P : List ℕ → Type 0) → NowOnly (state_of s) MirrorArea P
    → LeavesAlone (state_of s) (state_of t) MirrorArea → NowOnly (state_of t) MirrorArea P
alone-loads s t P each alone image may = each image (alone.now image may)
