-- The elements of a feed document that are refused.
use Rattle.std.specs.Prelude.{◌≡◌, ◌⊎◌, ℕ, ℤ, ◌<◌, ◌≤◌, List, length, Bool, ◌&&◌, IsTrue, false, if◌then◌else◌}
use Rattle.std.specs.Prelude.{Some, None, codes}
use Rattle.std.specs.List.{list_any}
use Rattle.atom_values.specs.DateText.{States}
use Rattle.atom_values.specs.Space.{trimmed}
use Rattle.atom_values.specs.XmlText.{text_limit}
use Rattle.feed_reader.specs.declared.fault.FeedWhy.{FeedWhy}
use Rattle.feed_reader.specs.declared.fault.FeedWhy.TheVariants.{Token, NotAFeed, Missing, Twice, BadDate, TooLong}
use Rattle.feed_reader.specs.declared.fault.FeedWhy.TheVariants.{BadLink, TooMany}
use Rattle.xml_tokens.specs.Tree.{Name, Element, Content}
use Rattle.xml_tokens.specs.Children.{Child, same_name, attribute, attribute_in, child}
use Rattle.xml_tokens.specs.Names.{atom, tombstones}
use Rattle.xml_tokens.specs.Order.{Placed, Rules, count_before, name_of}
use Rattle.feed_reader.specs.Feed.{cut_text, is_prev, is_prev_relation, item_limit, target, whole_text}

-- where an element is: at the root, in the feed, in an entry of it, or in an element that is skipped
pub data Within : Type 0 where
  at_root : Within
  in_feed : Within
  in_entry : Within
  in_skipped : Within

-- what an element is to the reader
pub data Kind : Type 0 where
  feed : Kind
  other_root : Kind
  entry : Kind
  tombstone : Kind
  identifier : Kind
  title : Kind
  date : Kind
  link : Kind
  skipped : Kind

-- Atom's element of this local name
abbrev pub is_atom : List ℕ → Name → Bool
is_atom local name = same_name name (atom local)

abbrev pub feed_kind : Name → Kind
feed_kind name =
    if is_atom (codes "id") name then identifier
    else (if is_atom (codes "updated") name then date
    else (if is_atom (codes "link") name then link
    else (if is_atom (codes "entry") name then entry
    else (if same_name name (tombstones (codes "deleted-entry")) then tombstone else skipped))))

abbrev pub entry_kind : Name → Kind
entry_kind name =
    if is_atom (codes "id") name then identifier
    else (if is_atom (codes "updated") name then date else (if is_atom (codes "title") name then title else skipped))

-- the kind of an element of this name, by where it is
abbrev pub kind_in : Within → Name → Kind
kind_in at_root name = if is_atom (codes "feed") name then feed else other_root
kind_in in_feed name = feed_kind name
kind_in in_entry name = entry_kind name
kind_in in_skipped name = skipped

-- where the elements inside an element are
abbrev pub within_kind : Kind → Within
within_kind feed = in_feed
within_kind entry = in_entry
within_kind _ = in_skipped

-- a feed or an entry lacks a child that it must have
abbrev pub LacksChild : Content → Type 0
LacksChild inner = (child (codes "id") inner ≡ None) ⊎ (child (codes "updated") inner ≡ None)

-- a tombstone lacks an attribute that it must have
abbrev pub LacksAttribute : Child → Type 0
LacksAttribute c = (attribute (codes "ref") c ≡ None) ⊎ (attribute (codes "when") c ≡ None)

abbrev pub StatesNone : List ℕ → Type 0
StatesNone text = (z : ℤ) → ¬ States text z

abbrev pub IsTooLong : List ℕ → Type 0
IsTooLong text = text_limit < length text

-- a link to the archive before (RFC 5005 section 4)
abbrev pub is_prev_link : Element → Bool
is_prev_link e = is_atom (codes "link") e.name && is_prev_relation (attribute_in (codes "rel") e.attributes)

-- the link is the first one to the archive before
abbrev pub IsFirstPrev : Placed Within → Type 0
IsFirstPrev p = IsTrue (is_prev p.child) × (list_any is_prev_link p.before ≡ false)

-- The reason holds of an element of this kind, in the document of an address. `Token` is a reason of the text and not
-- of an element.
abbrev pub IsFault : List ℕ → Kind → FeedWhy → Placed Within → Type 0
IsFault address other_root NotAFeed p = Unit {0}
IsFault address feed Missing p = LacksChild p.child.content
IsFault address entry Missing p = LacksChild p.child.content
IsFault address entry TooMany p = item_limit ≤ count_before p
IsFault address tombstone Missing p = LacksAttribute p.child
IsFault address tombstone BadDate p = (date : List ℕ) × (attribute (codes "when") p.child ≡ Some date)
    × StatesNone (trimmed date)
IsFault address tombstone TooLong p = (id : List ℕ) × (attribute (codes "ref") p.child ≡ Some id)
    × IsTooLong (trimmed id)
IsFault address tombstone TooMany p = item_limit ≤ count_before p
IsFault address identifier Twice p = 1 ≤ count_before p
IsFault address identifier TooLong p = IsTooLong (cut_text p.child)
IsFault address title Twice p = 1 ≤ count_before p
IsFault address title TooLong p = IsTooLong (whole_text p.child)
IsFault address date Twice p = 1 ≤ count_before p
IsFault address date BadDate p = StatesNone (cut_text p.child)
IsFault address link BadLink p = IsFirstPrev p × (target address p.child ≡ None)
IsFault address _ _ p = ⊥

abbrev pub HasFault : List ℕ → FeedWhy → Placed Within → Type 0
HasFault address why p = IsFault address (kind_in p.within (name_of p)) why p

-- the order in which the reasons of one element are tried
abbrev pub rank : FeedWhy → ℕ
rank (Token why) = 0
rank NotAFeed = 1
rank Missing = 2
rank Twice = 3
rank BadDate = 4
rank TooLong = 5
rank BadLink = 6
rank TooMany = 7

abbrev pub feed_rules : List ℕ → Rules Within FeedWhy
feed_rules address = record {
  inside = λ within name. within_kind (kind_in within name);
  Has = HasFault address;
  rank = rank;
}
