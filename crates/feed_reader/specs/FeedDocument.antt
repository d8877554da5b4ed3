-- The bytes that are read as a feed document, and why others aren't.
use Rattle.std.specs.Prelude.{◌≡◌, ◌⊎◌, ℕ, List, [], Option, Some, None}
use Rattle.xml_tokens.specs.declared.fault.TokenWhy.{TokenWhy}
use Rattle.feed_reader.specs.declared.fault.FeedWhy.{FeedWhy}
use Rattle.feed_reader.specs.declared.fault.FeedWhy.TheVariants.{Token}
use Rattle.xml_tokens.specs.Tree.{Element, Content, IsDocument}
use Rattle.xml_tokens.specs.Tree.Content.{nothing, element}
use Rattle.xml_tokens.specs.Refusal.{IsTokenRefusedAt}
use Rattle.xml_tokens.specs.Order.{Placed, IsFirst, all_placed}
use Rattle.feed_reader.specs.Feed.{DocumentValue, IsDocumentOf}
use Rattle.feed_reader.specs.FeedFaults.{Within, feed_rules}
use Rattle.feed_reader.specs.FeedFaults.Within.{at_root}

-- the greatest length of a feed document
abbrev pub feed_limit : ℕ
feed_limit = 67_108_864

-- the greatest depth of an element in a feed document; the root has depth 1
abbrev pub feed_depth : ℕ
feed_depth = 256

-- all elements of a document in document order, from its root on
abbrev pub placed_in : List ℕ → Element → Content → List (Placed Within)
placed_in address root content = all_placed (feed_rules address) at_root [] (element root content nothing)

-- the first refusal of an element of the document, if there is one
abbrev pub IsRefusalIn : List ℕ → Element → Content → Option (ℕ × FeedWhy) → Type 0
IsRefusalIn address root content refusal = IsFirst (feed_rules address) (placed_in address root content) refusal

-- the bytes, in the document of an address, are a feed document without a fault, which is read as `d`
pub record SpellsFeed (bytes address : List ℕ) (d : DocumentValue) : Type 0 where
  pub root : Element
  pub content : Content
  pub document : IsDocument feed_depth bytes root content
  pub faultless : IsRefusalIn address root content None
  pub read : IsDocumentOf address content d

-- The bytes are refused with this offset and reason: their encoding or a token isn't allowed, or else an element is
-- refused.
abbrev pub IsFeedRefusedAt : List ℕ → List ℕ → ℕ → FeedWhy → Type 0
IsFeedRefusedAt bytes address at why =
    ((cause : TokenWhy) × IsTokenRefusedAt feed_depth bytes at cause × (why ≡ Token cause))
    ⊎ ((root : Element) × (content : Content) × IsDocument feed_depth bytes root content
    × IsRefusalIn address root content (Some (at, why)))
