-- The offers of a pile by their addresses and digests.
use Rattle.std.specs.Prelude.{◌≡◌, ℕ, ◌+◌, List, Option, Some, None, option_map, slice_get, cond}
use Rattle.std.specs.BTreeMap.{BTreeMap, get}
use Rattle.std.specs.Cmp.Lexicographic.{slice_cmp}
use Rattle.std.specs.Option.{option_or}
use Rattle.std.specs.Ordering.{is_eq, nat_cmp, ordering_then}
use Rattle.std.specs.declared.cmp.Ordering.{Ordering}
use Rattle.chain_links.specs.Address.{IsAddress}
use Rattle.chain_links.specs.declared.address.Address.{Address}
use Rattle.chain_links.specs.declared.address.Address.TheVariants.{Feed, Archive, Member}
use Rattle.coverage_certificate.specs.Certificate.{CoverValue}
use Rattle.coverage_certificate.specs.Digest.{digest_of}
use Rattle.doc_source.specs.declared.offer.Offer.{Offer}
use Rattle.coverage_auditor.specs.Finding.{offer_at, offer_of}

-- a number for each address
abbrev pub address_number : Address → ℕ
address_number Feed = 0
address_number (Archive number) = number
address_number (Member number) = number + 4_294_967_296

-- an address by its number, and a digest
abbrev pub Key : Type 0
Key = ℕ × List ℕ

abbrev pub key_of : Address → List ℕ → Key
key_of address digest = (address_number address, digest)

abbrev pub line_key : CoverValue → Key
line_key line = key_of line.address line.digest

abbrev pub key_cmp : Key → Key → Ordering
key_cmp a b = ordering_then (nat_cmp a.0 b.0) (slice_cmp nat_cmp a.1 b.1)

-- the map has the value at the key, unless it had one there before
abbrev pub KeepsFirst : {K X : Type 0} → (K → K → Ordering) → BTreeMap K X → BTreeMap K X → K → X → Type 0
KeepsFirst cmp old new key value =
    (other : _) → get cmp new other ≡ option_or (get cmp old other) (cond (is_eq (cmp key other)) (Some value) None)

-- the index is that of the offer that was found
abbrev pub HasPlace : List Offer → Option ℕ → Option Offer → Type 0
HasPlace pile None None = Unit {0}
HasPlace pile None (Some offer) = ⊥
HasPlace pile (Some at) None = ⊥
HasPlace pile (Some at) (Some offer) = slice_get pile at ≡ Some offer

-- the maps have the digest of the first offer of each address, and the index of the first one of each line
pub record IsIndexOf (base : List ℕ) (pile : List Offer) (firsts : BTreeMap ℕ (List ℕ))
    (places : BTreeMap Key ℕ) : Type 0 where
  pub first : (address : Address) → IsAddress address → get nat_cmp firsts (address_number address)
      ≡ option_map (λ (offer : Offer). digest_of offer.bytes) (offer_at base pile address)
  pub placed : (line : CoverValue) → IsAddress line.address
      → HasPlace pile (get key_cmp places (line_key line)) (offer_of base pile line)
