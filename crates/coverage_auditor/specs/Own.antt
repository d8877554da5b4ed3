-- The pile of a mirror's own documents, which covers the mirror's own certificate.
use Rattle.std.specs.Prelude.{◌≡◌, List, ℕ, Some, None, All, Any, Contains}
use Rattle.atom_writer.specs.Doc.{DocValue}
use Rattle.atom_writer.specs.Pieces.{text}
use Rattle.coverage_certificate.specs.Certificate.{CertificateValue}
use Rattle.coverage_certificate.specs.Held.{certificate_of}
use Rattle.doc_source.specs.declared.offer.Offer.{Offer}
use Rattle.mirror_walk.specs.Accept.{own_text}
use Rattle.mirror_walk.specs.Holding.{KeptValue, chain_of, first_missing}
use Rattle.mirror_walk.specs.Loaded.{IsLoadedOf}
use Rattle.coverage_auditor.specs.Links.{accepted}
use Rattle.coverage_auditor.specs.Verdict.{Covers, IsVerdict}
use Rattle.coverage_auditor.specs.declared.verdict.Verdict.{Verdict}

-- the document, offered under its own address
abbrev pub own_offer : DocValue → Offer
own_offer document = record { address = own_text document; bytes = text document }

-- Each offer is that of one of these documents, and each document is offered. The offers have any order, and a
-- document may be offered more than once.
pub record IsPileOf (documents : List DocValue) (pile : List Offer) : Type 0 where
  pub only : All (λ offer. Any (λ document. offer ≡ own_offer document) documents) pile
  pub each : All (λ document. Contains pile (own_offer document)) documents

-- the pile covers the certificate, and each verdict is `Accepted`
pub record IsAccepted (c : CertificateValue) (pile : List Offer) : Type 0 where
  pub covers : Covers c pile
  pub verdict : (verdict : Verdict) → IsVerdict c pile verdict → verdict ≡ accepted c

-- the certificate of a complete mirror is accepted over the mirror's own documents
abbrev pub OwnCertificatesAreAccepted : Type 0
OwnCertificatesAreAccepted = (base : List ℕ) (payloads : List (List ℕ)) (kept : List KeptValue)
    (c : CertificateValue) (pile : List Offer) → IsLoadedOf base payloads kept → first_missing kept ≡ None
    → certificate_of base kept ≡ Some c → IsPileOf (chain_of kept) pile → IsAccepted c pile
