-- The document of a certificate's line, and why a line has none.
use Rattle.std.specs.Prelude.{◌≡◌, ℕ, List, Bool, ◌&&◌, Option, Some, None, find}
use Rattle.std.specs.Str.{bytes_eq}
use Rattle.atom_grammar.specs.Refusal.{IsNoDocument}
use Rattle.atom_writer.specs.Doc.{DocValue, IsDoc}
use Rattle.atom_writer.specs.Pieces.{own_address, text}
use Rattle.chain_links.specs.Address.{printed}
use Rattle.chain_links.specs.declared.address.Address.{Address}
use Rattle.coverage_certificate.specs.Certificate.{CertificateValue, CoverValue}
use Rattle.coverage_certificate.specs.Digest.{digest_of}
use Rattle.doc_source.specs.declared.offer.Offer.{Offer}
use Rattle.coverage_auditor.specs.declared.verdict.Verdict.{Verdict}
use Rattle.coverage_auditor.specs.declared.verdict.Verdict.TheVariants.{NoDocument, DigestDiffers}
use Rattle.coverage_auditor.specs.declared.verdict.Verdict.TheVariants.{NotADocument, WrongDocument}

-- the offer has this address
abbrev pub is_at : List ℕ → Offer → Bool
is_at address offer = bytes_eq offer.address address

-- the offer has the line's address below the base, and its bytes have the line's digest
abbrev pub is_of_line : List ℕ → CoverValue → Offer → Bool
is_of_line base line offer =
    is_at (printed base line.address) offer && bytes_eq (digest_of offer.bytes) line.digest

-- the first offer of an address
unfoldable pub offer_at : List ℕ → List Offer → Address → Option Offer
offer_at base pile address = find (is_at (printed base address)) pile

-- the first offer of a line
unfoldable pub offer_of : List ℕ → List Offer → CoverValue → Option Offer
offer_of base pile line = find (is_of_line base line) pile

-- the document states the line's address, and the base and the identifier of the certificate
pub record BelongsTo (c : CertificateValue) (line : CoverValue) (document : DocValue) : Type 0 where
  pub address : own_address document.kind ≡ line.address
  pub base : document.name.base ≡ c.base
  pub feed : document.name.id ≡ c.feed

-- the bytes of the line's first offer are the text of this document
pub record IsReadOf (c : CertificateValue) (pile : List Offer) (line : CoverValue) (document : DocValue)
    : Type 0 where
  pub offer : Offer
  pub found : offer_of c.base pile line ≡ Some offer
  pub is_doc : IsDoc document
  pub text : offer.bytes ≡ text document

-- the line's document, which belongs to it
pub record HasDocument (c : CertificateValue) (pile : List Offer) (line : CoverValue) (document : DocValue)
    : Type 0 where
  pub read : IsReadOf c pile line document
  pub belongs : BelongsTo c line document

-- the pile has no offer of the line's address
abbrev pub IsNotOffered : CertificateValue → List Offer → CoverValue → Type 0
IsNotOffered c pile line = offer_at c.base pile line.address ≡ None

-- the pile has offers of the line's address, the first of them with this digest, and none with the line's
pub record IsOfferedAs (c : CertificateValue) (pile : List Offer) (line : CoverValue) (digest : List ℕ)
    : Type 0 where
  pub none : offer_of c.base pile line ≡ None
  pub first : Offer
  pub there : offer_at c.base pile line.address ≡ Some first
  pub digest_is : digest ≡ digest_of first.bytes

-- the bytes of the line's first offer are the text of no document
pub record IsNoReading (c : CertificateValue) (pile : List Offer) (line : CoverValue) : Type 0 where
  pub offer : Offer
  pub found : offer_of c.base pile line ≡ Some offer
  pub no_document : IsNoDocument offer.bytes

-- they are the text of a document that doesn't belong to the line
pub record IsForeign (c : CertificateValue) (pile : List Offer) (line : CoverValue) : Type 0 where
  pub document : DocValue
  pub read : IsReadOf c pile line document
  pub foreign : ¬ BelongsTo c line document

-- the line has no document, for this reason
abbrev pub RefusesLine : CertificateValue → List Offer → CoverValue → Verdict → Type 0
RefusesLine c pile line (NoDocument address) = (address ≡ line.address) × IsNotOffered c pile line
RefusesLine c pile line (DigestDiffers address found) =
    (address ≡ line.address) × IsOfferedAs c pile line found
RefusesLine c pile line (NotADocument address) = (address ≡ line.address) × IsNoReading c pile line
RefusesLine c pile line (WrongDocument address) = (address ≡ line.address) × IsForeign c pile line
RefusesLine c pile line _ = ⊥
