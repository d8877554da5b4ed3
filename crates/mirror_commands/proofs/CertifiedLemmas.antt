-- `Report::end`: the certificate of a complete mirror.
use Rattle.std.proofs.Common.{◌≡◌, ℕ, List, Option, Some, None, IsSome, refl, sym, subst, ◌∙◌, option_map}
use Rattle.atom_writer.specs.declared.doc.FeedName.{FeedName}
use Rattle.coverage_certificate.specs.Certificate.{CertificateValue}
use Rattle.coverage_certificate.specs.Held.{certificate_of}
use Rattle.mirror_walk.specs.Held.{IsHeldDoc}
use Rattle.mirror_walk.specs.Holding.{KeptValue, best_of, first_missing, missing_after, name_of_best, payloads_of}
use Rattle.mirror_walk.specs.Listing.{outcome_by, outcome_of}
use Rattle.mirror_walk.specs.Loaded.{IsLoadedOf}
use Rattle.mirror_walk.specs.declared.answer.Outcome.TheVariants.{Complete}
use Rattle.mirror_walk.proofs.FoundLemmas.{best_of-holds}
use Rattle.mirror_walk.proofs.HeldLemmas.{loaded-held}

-- a complete mirror has a best subscription document
pub complete-best : (kept : List KeptValue) (version live : ℕ) → outcome_of kept ≡ Complete version live
    → IsSome (best_of kept)
unfolding outcome_of first_missing
complete-best kept version live e = go (best_of kept) e
  where
    go : (best : Option KeptValue) → outcome_by kept best (missing_after kept best) ≡ Complete version live
        → IsSome best
    go None is = absurd (cc)
    go (Some best) is = refl

-- the certificate has the mirror's base
pub certificate-base : (base : List ℕ) (kept : List KeptValue) (made : CertificateValue)
    → IsLoadedOf base (payloads_of kept) kept
    → option_map (λ (name : FeedName). name.base) (name_of_best kept) ≡ Some made.base
    → certificate_of made.base kept ≡ Some made → certificate_of base kept ≡ Some made
certificate-base base kept made loaded named is =
    subst (λ (b : List ℕ). certificate_of b kept ≡ Some made) (go (best_of kept) refl named) is
  where
    go : (best : Option KeptValue) → best_of kept ≡ best
        → option_map (λ (name : FeedName). name.base) (option_map (λ (k : KeptValue). k.document.name) best)
        ≡ Some made.base → made.base ≡ base
    go None e said = absurd (cc)
    go (Some best) e said =
        let same : best.document.name.base ≡ made.base = cc in
        let held = loaded-held base (payloads_of kept) kept loaded in
        sym same ∙ (best_of-holds (IsHeldDoc base) kept best held.each e).0.base_is
