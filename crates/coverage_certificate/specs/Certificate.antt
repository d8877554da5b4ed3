-- A certificate as contracts see it, and the rules that its type keeps.
use Rattle.std.specs.Prelude.{◌≡◌, ℕ, ◌≤◌, ◌<◌, ◌^◌, List, [], ◌∷◌, length, All}
use Rattle.chain_links.specs.Base.{IsBase}
use Rattle.chain_links.specs.declared.address.Address.{Address}
use Rattle.chain_links.specs.declared.address.Address.TheVariants.{Feed, Archive, Member}
use Rattle.deleted_entries.specs.FeedId.{IsFeedId}
use Rattle.coverage_certificate.specs.declared.cover_line.CoverLine.{CoverLine}
use Rattle.coverage_certificate.specs.Digest.{IsDigest}

-- the address of a document, and the digest of its bytes
abbrev pub CoverValue : Type 0
CoverValue = CoverLine

pub record CertificateValue : Type 0 where
  pub feed : List ℕ
  pub base : List ℕ
  pub version : ℕ
  pub lines : List CoverValue
  pub live_count : ℕ
  pub live_digest : List ℕ

-- the greatest number of lines
abbrev pub line_limit : ℕ
line_limit = 4_294_967_295

-- the address of an archive, whose number is from 1
abbrev pub IsArchive : Address → Type 0
IsArchive Feed = ⊥
IsArchive (Archive number) = (1 ≤ number) × (number < 2 ^ 32)
IsArchive (Member number) = ⊥

-- there is a first line and it has the feed's address; the others have archives'
abbrev pub AreCoverLines : List CoverValue → Type 0
AreCoverLines [] = ⊥
AreCoverLines (first ∷ others) =
    (first.address ≡ Feed) × All (λ (line : CoverValue). IsArchive line.address) others

-- the rules that the types of a certificate keep
pub record IsCertificate (c : CertificateValue) : Type 0 where
  pub feed : IsFeedId c.feed
  pub base : IsBase c.base
  pub version : c.version < 2 ^ 32
  pub lines : AreCoverLines c.lines
  pub few : length c.lines ≤ line_limit
  pub digests : All (λ (line : CoverValue). IsDigest line.digest) c.lines
  pub live_count : c.live_count < 2 ^ 32
  pub live_digest : IsDigest c.live_digest
