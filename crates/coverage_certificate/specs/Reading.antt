-- The lines that are allowed at a place of a certificate's text.
use Rattle.std.specs.Prelude.{◌≡◌, ◌≢◌, ◌⊎◌, ℕ, ◌+◌, ◌<◌, ◌^◌, List, [], ◌∷◌, ◌++◌, All, Bool, true, false, Result, Ok, Err}
use Rattle.hex.specs.Hex.{encode_lower}
use Rattle.atom_values.specs.Ascii.{lf, space}
use Rattle.chain_links.specs.Base.{IsBase}
use Rattle.chain_links.specs.declared.address.Address.{Address}
use Rattle.chain_links.specs.declared.address.Address.TheVariants.{Feed}
use Rattle.deleted_entries.specs.FeedId.{IsFeedId}
use Rattle.coverage_certificate.specs.declared.certificate_fault.CertificateFault.{CertificateFault}
use Rattle.coverage_certificate.specs.declared.certificate_fault.CertificateFault.TheVariants.{BadCertificate, NoMemory}
use Rattle.coverage_certificate.specs.Digest.{IsDigest}
use Rattle.coverage_certificate.specs.Certificate.{AreCoverLines, CertificateValue, CoverValue, IsArchive, IsCertificate}
use Rattle.coverage_certificate.specs.Text.{IsFirstBadLine, certificate_text, document_line, end_line, feed_line}
use Rattle.coverage_certificate.specs.Text.{live_line, version_line}

abbrev pub HasNoLf : List ℕ → Type 0
HasNoLf bytes = All (λ b. b ≢ lf) bytes

-- the text begins with this line, which ends with LF
pub record IsNextLine (text line rest : List ℕ) : Type 0 where
  pub no_lf : HasNoLf line
  pub split : text ≡ line ++ lf ∷ rest

-- the first line of the text has another form
abbrev pub HasNoLine : (List ℕ → Type 0) → List ℕ → Type 0
HasNoLine Is text = (line rest : List ℕ) → Is line → text ≢ line ++ lf ∷ rest

pub record IsFeedLine (line : List ℕ) : Type 0 where
  pub feed : List ℕ
  pub base : List ℕ
  pub is_feed : IsFeedId feed
  pub is_base : IsBase base
  pub whole : line ≡ feed_line feed base

pub record IsVersionLine (line : List ℕ) : Type 0 where
  pub version : ℕ
  pub small : version < 2 ^ 32
  pub whole : line ≡ version_line version

-- the address that the first document line has, and that a later one has
abbrev pub Fits : Bool → Address → Type 0
Fits true address = address ≡ Feed
Fits false address = IsArchive address

-- a document line that is allowed as the first one, or as a later one
pub record IsDocumentLine (base : List ℕ) (is_first : Bool) (line : List ℕ) : Type 0 where
  pub cover : CoverValue
  pub fits : Fits is_first cover.address
  pub is_digest : IsDigest cover.digest
  pub whole : line ≡ document_line base cover

pub record IsLiveLine (line : List ℕ) : Type 0 where
  pub count : ℕ
  pub digest : List ℕ
  pub small : count < 2 ^ 32
  pub is_digest : IsDigest digest
  pub whole : line ≡ live_line count digest

-- there is no line yet, or the lines are those of a certificate
abbrev pub AreLinesSoFar : List CoverValue → Type 0
AreLinesSoFar [] = Unit {0}
AreLinesSoFar (line ∷ lines) = AreCoverLines (line ∷ lines)

-- the text is this prefix, a space and the digits of the digest
pub record IsSpacedDigest (text front digest : List ℕ) : Type 0 where
  pub is_digest : IsDigest digest
  pub whole : text ≡ front ++ space ∷ encode_lower digest

-- a text after the documents that lacks the last line of a certificate
pub record LacksEnd (text : List ℕ) : Type 0 where
  pub count : ℕ
  pub digest : List ℕ
  pub rest : List ℕ
  pub small : count < 2 ^ 32
  pub is_digest : IsDigest digest
  pub split : text ≡ live_line count digest ++ lf ∷ rest
  pub no_end : (after : List ℕ) → rest ≢ end_line ++ lf ∷ after

-- a text after the documents that goes on after the last line of a certificate
pub record GoesPastEnd (text : List ℕ) : Type 0 where
  pub count : ℕ
  pub digest : List ℕ
  pub rest : List ℕ
  pub small : count < 2 ^ 32
  pub is_digest : IsDigest digest
  pub split : text ≡ live_line count digest ++ lf ∷ (end_line ++ lf ∷ rest)
  pub more : rest ≢ []

-- the refusal of a text after the documents, whose first line has this number
abbrev pub IsBadEnding : ℕ → List ℕ → CertificateFault → Type 0
IsBadEnding line text (BadCertificate at) =
    ((at ≡ line) × HasNoLine IsLiveLine text)
    ⊎ (((at ≡ line + 1) × LacksEnd text) ⊎ ((at ≡ line + 2) × GoesPastEnd text))
IsBadEnding line text NoMemory = ⊥

-- the result of the reading of a text
abbrev pub IsReading : List ℕ → Result CertificateValue CertificateFault → Type 0
IsReading text (Ok c) = IsCertificate c × (certificate_text c ≡ text)
IsReading text (Err (BadCertificate line)) = IsFirstBadLine text line
IsReading text (Err NoMemory) = Unit {0}

abbrev pub is_nil : List CoverValue → Bool
is_nil [] = true
is_nil (line ∷ lines) = false
