-- The bytes that are read as a service document, and why others aren't.
use Rattle.std.specs.Prelude.{◌≡◌, ◌⊎◌, ℕ, List, Option, Some, None}
use Rattle.xml_tokens.specs.declared.fault.TokenWhy.{TokenWhy}
use Rattle.xml_tokens.specs.Tree.{Element, Content, IsDocument}
use Rattle.xml_tokens.specs.Refusal.{IsTokenRefusedAt}
use Rattle.xml_tokens.specs.Order.{IsFirst}
use Rattle.service_reader.specs.declared.fault.ServiceWhy.{ServiceWhy}
use Rattle.service_reader.specs.declared.fault.ServiceWhy.TheVariants.{Token}
use Rattle.service_reader.specs.declared.values.Collection.{Collection}
use Rattle.service_reader.specs.Service.{AreCollectionsOf, collections_of}
use Rattle.service_reader.specs.ServiceFaults.{placed_in, service_rules}

-- the greatest length of a service document
abbrev pub service_limit : ℕ
service_limit = 67_108_864

-- the greatest depth of an element in a service document; the root has depth 1
abbrev pub service_depth : ℕ
service_depth = 256

-- the first refusal of an element of the document, if there is one
abbrev pub IsRefusalIn : List ℕ → Element → Content → Option (ℕ × ServiceWhy) → Type 0
IsRefusalIn address root content refusal = IsFirst (service_rules address) (placed_in root content) refusal

-- the bytes, in the document of an address, are a service document without a fault, which has these collections
pub record SpellsService (bytes address : List ℕ) (collections : List Collection) : Type 0 where
  pub root : Element
  pub content : Content
  pub document : IsDocument service_depth bytes root content
  pub faultless : IsRefusalIn address root content None
  pub read : AreCollectionsOf address (collections_of content) collections

-- The bytes are refused with this offset and reason: their encoding or a token isn't allowed, or else an element is
-- refused.
abbrev pub IsServiceRefusedAt : List ℕ → List ℕ → ℕ → ServiceWhy → Type 0
IsServiceRefusedAt bytes address at why =
    ((cause : TokenWhy) × IsTokenRefusedAt service_depth bytes at cause × (why ≡ Token cause))
    ⊎ ((root : Element) × (content : Content) × IsDocument service_depth bytes root content
    × IsRefusalIn address root content (Some (at, why)))
