-- The documents of a certificate's lines.
use Rattle.std.specs.Prelude.{◌≡◌, ℕ, ◌<◌, List, Option, Some, None, All, slice_get, length, filter_map, option_map}
use Rattle.std.specs.Prelude.{Result, Ok, Err}
use Rattle.std.specs.BTreeMap.{BTreeMap, get}
use Rattle.std.specs.List.{AllZip}
use Rattle.atom_writer.specs.Doc.{DocValue, IsDoc}
use Rattle.atom_writer.specs.Pieces.{text}
use Rattle.atom_writer.specs.declared.doc.FeedName.{FeedName}
use Rattle.chain_links.specs.Address.{IsAddress}
use Rattle.coverage_certificate.specs.Certificate.{CertificateValue, CoverValue}
use Rattle.doc_source.specs.declared.offer.Offer.{Offer}
use Rattle.coverage_auditor.specs.Finding.{HasDocument}
use Rattle.coverage_auditor.specs.Offers.{Key, key_cmp, line_key}

-- the bytes are the text of this document
pub record IsTextOf (document : DocValue) (bytes : List ℕ) : Type 0 where
  pub is_doc : IsDoc document
  pub text_is : bytes ≡ text document

-- the document states the base and the feed of this name
pub record IsOfFeed (name : FeedName) (document : DocValue) : Type 0 where
  pub base : document.name.base ≡ name.base
  pub feed : document.name.id ≡ name.id

-- the name is that of the first of the documents, if there is one
abbrev pub HasFirstName : List DocValue → Option FeedName → Type 0
HasFirstName documents name = name ≡ option_map (λ (d : DocValue). d.name) (slice_get documents 0)

-- the documents of the lines, by their places among those that were read
unfoldable pub shown : List DocValue → List ℕ → List DocValue
shown documents places = filter_map (slice_get documents) places

-- each place is that of a document
abbrev pub ArePlaces : List DocValue → List ℕ → Type 0
ArePlaces documents places = All (λ at. at < length documents) places

-- each line has a document, the name is that of the first line's, and all documents are of its feed
pub record IsChainOf (name : FeedName) (documents : List DocValue) (places : List ℕ) : Type 0 where
  pub placed : ArePlaces documents places
  pub named : HasFirstName (shown documents places) (Some name)
  pub of_feed : All (IsOfFeed name) (shown documents places)

-- the document at this place is the line's
pub record IsShelved (c : CertificateValue) (pile : List Offer) (documents : List DocValue) (line : CoverValue)
    (at : ℕ) : Type 0 where
  pub document : DocValue
  pub there : slice_get documents at ≡ Some document
  pub of_line : HasDocument c pile line document

abbrev pub IsShelvedAt : CertificateValue → List Offer → List DocValue → CoverValue → Option ℕ → Type 0
IsShelvedAt c pile documents line None = Unit {0}
IsShelvedAt c pile documents line (Some at) = IsShelved c pile documents line at

-- the map has the places of documents, by the keys of their lines
abbrev pub IsShelf : CertificateValue → List Offer → List DocValue → BTreeMap Key ℕ → Type 0
IsShelf c pile documents read = (line : CoverValue) → IsAddress line.address
    → IsShelvedAt c pile documents line (get key_cmp read (line_key line))
