-- The verdict on a certificate, and the relation that a pile covers it.
use Rattle.std.specs.Prelude.{◌≡◌, ◌⊎◌, ◌≤◌, List, ◌∷◌, ◌++◌, All, length}
use Rattle.std.specs.List.{AllZip}
use Rattle.doc_source.specs.Pile.{offer_limit}
use Rattle.atom_writer.specs.Doc.{DocValue}
use Rattle.coverage_certificate.specs.Certificate.{CertificateValue, CoverValue}
use Rattle.doc_source.specs.declared.offer.Offer.{Offer}
use Rattle.member_rules.specs.Chain.{IsChain}
use Rattle.member_rules.specs.Shows.{live_count_of}
use Rattle.coverage_auditor.specs.declared.verdict.Verdict.{Verdict}
use Rattle.coverage_auditor.specs.Finding.{HasDocument, RefusesLine}
use Rattle.coverage_auditor.specs.Links.{digest_by, verdict_on}

-- the lines' documents, in the lines' order
abbrev pub AreDocuments : CertificateValue → List Offer → List CoverValue → List DocValue → Type 0
AreDocuments c pile lines documents = AllZip (HasDocument c pile) lines documents

-- the first line that has no document is refused with this verdict
pub record IsRefusedAtLine (c : CertificateValue) (pile : List Offer) (verdict : Verdict) : Type 0 where
  pub before : List CoverValue
  pub line : CoverValue
  pub after : List CoverValue
  pub split : c.lines ≡ before ++ line ∷ after
  pub documents : List DocValue
  pub read : AreDocuments c pile before documents
  pub refused : RefusesLine c pile line verdict

-- each line has a document, and there is at least one line
pub record IsWhole (c : CertificateValue) (pile : List Offer) (documents : List DocValue) : Type 0 where
  pub newest : DocValue
  pub others : List DocValue
  pub split : documents ≡ newest ∷ others
  pub read : AreDocuments c pile c.lines documents

-- each line has a document, and this is the verdict on them
pub record IsDecidedOn (c : CertificateValue) (pile : List Offer) (verdict : Verdict) : Type 0 where
  pub newest : DocValue
  pub others : List DocValue
  pub read : AreDocuments c pile c.lines (newest ∷ others)
  pub decided : verdict ≡ verdict_on c newest others

-- the verdict of an auditor: the first line's without a document, or else that on the documents
abbrev pub IsVerdict : CertificateValue → List Offer → Verdict → Type 0
IsVerdict c pile verdict = IsRefusedAtLine c pile verdict ⊎ IsDecidedOn c pile verdict

-- the documents of the lines are in the pile, and are a whole chain that shows what the certificate says
pub record Covers (c : CertificateValue) (pile : List Offer) : Type 0 where
  pub newest : DocValue
  pub others : List DocValue
  pub read : AreDocuments c pile c.lines (newest ∷ others)
  pub version : newest.span.last ≡ c.version
  pub chain : IsChain (newest ∷ others)
  pub count : live_count_of (newest ∷ others) ≡ c.live_count
  pub digest : digest_by newest (newest ∷ others) ≡ c.live_digest

-- each offer is within the limit of a document
abbrev pub AreShort : List Offer → Type 0
AreShort pile = All (λ (offer : Offer). length offer.bytes ≤ offer_limit) pile

-- a certificate and a pile have at most one verdict
abbrev pub OneVerdict : Type 0
OneVerdict = (c : CertificateValue) (pile : List Offer) (one other : Verdict) → IsVerdict c pile one
    → IsVerdict c pile other → one ≡ other
