-- The parts that a reader has read of a feed document so far.
use Rattle.std.specs.Prelude.{◌≡◌, ◌⊎◌, ℕ, ℤ, ◌<◌, List, [], ◌∷◌, ◌++◌, length, All, Bool, true, false}
use Rattle.std.specs.Prelude.{Option, Some, None, option_and_then, option_map, is_some, IfSome, find, codes, Result, Ok, Err}
use Rattle.std.specs.List.{AllZip}
use Rattle.atom_values.specs.DateText.{States}
use Rattle.atom_values.specs.Space.{trimmed}
use Rattle.atom_values.specs.XmlText.{IsAtomText}
use Rattle.url.specs.Parser.{Parsed, IsOutOfRoom}
use Rattle.url.specs.Parts.{Parts}
use Rattle.xml_tokens.specs.declared.fault.TokenFault.{TokenFault}
use Rattle.xml_tokens.specs.declared.fault.TokenFault.TheVariants.{NotRead, NoMemory}
use Rattle.feed_reader.specs.declared.entry.EntryParts.{EntryParts}
use Rattle.feed_reader.specs.declared.fault.FeedWhy.{FeedWhy}
use Rattle.feed_reader.specs.declared.fault.FeedWhy.TheVariants.{Token, Missing, Twice, BadDate, TooLong, BadLink}
use Rattle.feed_reader.specs.declared.fault.FeedWhy.TheVariants.{TooMany}
use Rattle.feed_reader.specs.declared.fault.ForeignRead.{ForeignRead}
use Rattle.feed_reader.specs.declared.fault.ForeignRead.TheVariants.{NotRead as ForeignNotRead}
use Rattle.feed_reader.specs.declared.fault.ForeignRead.TheVariants.{NoMemory as OutOfMemory}
use Rattle.feed_reader.specs.declared.parts.FeedParts.{FeedParts}
use Rattle.feed_reader.specs.declared.text.Required.{Required}
use Rattle.feed_reader.specs.declared.values.ForeignEntry.{ForeignEntry}
use Rattle.feed_reader.specs.declared.values.ForeignGone.{ForeignGone}
use Rattle.xml_tokens.specs.Tree.{Element, Content}
use Rattle.xml_tokens.specs.Tree.Content.{nothing, element}
use Rattle.xml_tokens.specs.Children.{Child, attribute_in, child, named}
use Rattle.xml_tokens.specs.Names.{atom, tombstones}
use Rattle.xml_tokens.specs.Order.{IsFaultless, IsFirst, all_placed}
use Rattle.feed_reader.specs.Feed.{DocumentValue, IsDocumentOf, IsEntryOf, IsForeignDocument, IsForeignEntry, IsForeignGone}
use Rattle.feed_reader.specs.Feed.{IsGoneOf, cut_text, is_prev, is_prev_relation, item_limit, joined_to, prev_of}
use Rattle.feed_reader.specs.Feed.{whole_text}
use Rattle.feed_reader.specs.FeedFaults.{IsTooLong, LacksAttribute, LacksChild, StatesNone, feed_rules}
use Rattle.feed_reader.specs.FeedFaults.Within.{at_root, in_entry, in_feed}

-- the refusal of a feed document for one of its tokens
abbrev pub foreign_fault : TokenFault → ForeignRead
foreign_fault (NotRead at why) = ForeignNotRead at (Token why)
foreign_fault NoMemory = OutOfMemory

-- whether the children are read that a feed or an entry must have
pub record AreNoted (b : Content) (required : Required) : Type 0 where
  pub id : required.id ≡ is_some (child (codes "id") b)
  pub updated : required.updated ≡ is_some (child (codes "updated") b)

-- a text is kept, unless it is too long
abbrev pub IsKept : List ℕ → Result (List ℕ) FeedWhy → Type 0
IsKept bytes (Ok text) = (text ≡ bytes) × IsAtomText text
IsKept bytes (Err why) = IsTooLong bytes × (why ≡ TooLong)

-- a text is put into a slot, unless it is refused
abbrev pub IsFilled : Option (List ℕ) → Option (List ℕ) → List ℕ → Option FeedWhy → Type 0
IsFilled old new text None = (is_some old ≡ false) × (new ≡ Some text) × IsAtomText text
IsFilled old new text (Some why) =
    ((is_some old ≡ true) × (why ≡ Twice)) ⊎ ((is_some old ≡ false) × IsTooLong text × (why ≡ TooLong))

-- the timestamp of a date is put into a slot, unless the date is refused
abbrev pub IsDated : Option ℤ → Option ℤ → List ℕ → Option FeedWhy → Type 0
IsDated old new text None = (is_some old ≡ false) × ((z : ℤ) × (new ≡ Some z) × States text z)
IsDated old new text (Some why) =
    ((is_some old ≡ true) × (why ≡ Twice)) ⊎ ((is_some old ≡ false) × StatesNone text × (why ≡ BadDate))

-- the URL that was parsed, unless the text is refused
abbrev pub IsUrlOf : Parsed Parts → Option Parts → Type 0
IsUrlOf (Ok url) found = found ≡ Some url
IsUrlOf (Err fault) found = (found ≡ None) × ¬ IsOutOfRoom fault

-- the timestamp that a date states, if it is there
abbrev pub IsMoment : Option Child → Option ℤ → Type 0
IsMoment None moment = moment ≡ None
IsMoment (Some c) moment = (z : ℤ) × (moment ≡ Some z) × States (cut_text c) z

-- the parts of an entry whose content is read so far, none of whose elements is refused
pub record IsEntryRead (b : Content) (parts : EntryParts) : Type 0 where
  pub id : parts.id ≡ option_map cut_text (child (codes "id") b)
  pub title : parts.title ≡ option_map whole_text (child (codes "title") b)
  pub updated : IsMoment (child (codes "updated") b) parts.updated
  pub id_rules : IfSome parts.id IsAtomText
  pub title_rules : IfSome parts.title IsAtomText

-- the parts of an entry whose content is read so far
pub record IsEntrySoFar (b : Content) (parts : EntryParts) : Type 0 where
  pub required : AreNoted b parts.required
  pub refused : (address : List ℕ) → IsFirst (feed_rules address) (all_placed (feed_rules address) in_entry [] b)
      parts.refused
  pub read : parts.refused ≡ None → IsEntryRead b parts

-- the entry that is made of an element, or its refusal, where the list of entries has no room or has it
abbrev pub IsEntryMade : Element → Content → Bool → Result ForeignEntry (ℕ × FeedWhy) → Type 0
IsEntryMade e inner full (Ok made) =
    IsEntryOf (record { element = e; content = inner }) made × IsForeignEntry made × (full ≡ false)
    × ¬ LacksChild inner
    × ((address : List ℕ) → All (IsFaultless (feed_rules address)) (all_placed (feed_rules address) in_entry [] inner))
IsEntryMade e inner full (Err (at, why)) =
    (LacksChild inner × (at ≡ e.place) × (why ≡ Missing))
    ⊎ (¬ LacksChild inner × (full ≡ true) × (at ≡ e.place) × (why ≡ TooMany))
    ⊎ (¬ LacksChild inner × (full ≡ false)
    × ((address : List ℕ) → IsFirst (feed_rules address) (all_placed (feed_rules address) in_entry [] inner)
    (Some (at, why))))

-- the parts of a feed whose content is read so far, none of whose elements is refused
pub record IsFeedRead (b : Content) (parts : FeedParts) : Type 0 where
  pub id : parts.id ≡ option_map cut_text (child (codes "id") b)
  pub updated : IsMoment (child (codes "updated") b) parts.updated
  pub prev : parts.prev ≡ prev_of parts.address.now b
  pub linked : is_some parts.prev ≡ is_some (find is_prev (named (atom (codes "link")) b))
  pub entries : AllZip IsEntryOf (named (atom (codes "entry")) b) parts.entries.items
  pub gone : AllZip IsGoneOf (named (tombstones (codes "deleted-entry")) b) parts.gone.items
  pub id_rules : IfSome parts.id IsAtomText
  pub entry_rules : All IsForeignEntry parts.entries.items
  pub gone_rules : All IsForeignGone parts.gone.items

-- the parts of a feed whose content is read so far
pub record IsFeedSoFar (b : Content) (parts : FeedParts) : Type 0 where
  pub required : AreNoted b parts.required
  pub refused : IsFirst (feed_rules parts.address.now) (all_placed (feed_rules parts.address.now) in_feed [] b)
      parts.refused
  pub read : parts.refused ≡ None → IsFeedRead b parts

-- the address that a link leads to
abbrev pub target_of : List ℕ → Element → Option (List ℕ)
target_of address e = option_and_then (joined_to address) (attribute_in (codes "href") e.attributes)

-- whether a link leads to the archive before
abbrev pub leads_back : Element → Bool
leads_back e = is_prev_relation (attribute_in (codes "rel") e.attributes)

-- a link is taken, unless it is refused
abbrev pub IsLinkTaken : Element → FeedParts → FeedParts → Option FeedWhy → Type 0
IsLinkTaken e old new why =
    ((new ≡ old) × (why ≡ None) × ((is_some old.prev ≡ true) ⊎ (leads_back e ≡ false)))
    ⊎ ((new ≡ record old { prev = target_of old.address.now e }) × (is_some old.prev ≡ false) × (leads_back e ≡ true)
    × (((why ≡ None) × (is_some new.prev ≡ true)) ⊎ ((why ≡ Some BadLink) × (is_some new.prev ≡ false))))

-- the tombstone that an element's attributes state, or why it is refused
abbrev pub IsGoneRead : Element → Result ForeignGone FeedWhy → Type 0
IsGoneRead e (Ok gone) =
    ((inner : Content) → IsGoneOf (record { element = e; content = inner }) gone) × IsForeignGone gone
IsGoneRead e (Err why) =
    (((inner : Content) → LacksAttribute (record { element = e; content = inner })) × (why ≡ Missing))
    ⊎ ((id : List ℕ) × (date : List ℕ) × (attribute_in (codes "ref") e.attributes ≡ Some id)
    × (attribute_in (codes "when") e.attributes ≡ Some date)
    × ((StatesNone (trimmed date) × (why ≡ BadDate))
    ⊎ (((z : ℤ) × States (trimmed date) z) × IsTooLong (trimmed id) × (why ≡ TooLong))))

-- a tombstone is taken, unless it is refused
abbrev pub IsGoneTaken : Element → FeedParts → FeedParts → Option FeedWhy → Type 0
IsGoneTaken e old new None =
    (gone : ForeignGone) × IsGoneRead e (Ok gone) × (new ≡ record old { gone = new.gone })
    × (new.gone.items ≡ old.gone.items ++ gone ∷ []) × (length old.gone.items < item_limit)
IsGoneTaken e old new (Some why) =
    (new ≡ old)
    × (IsGoneRead e (Err why)
    ⊎ (((gone : ForeignGone) × IsGoneRead e (Ok gone)) × (length old.gone.items ≡ item_limit) × (why ≡ TooMany)))

-- an entry is taken, unless it is refused
abbrev pub IsEntryTaken : Element → FeedParts → FeedParts → Content → Option (ℕ × FeedWhy) → Type 0
IsEntryTaken e old new inner None =
    (made : ForeignEntry) × IsEntryMade e inner false (Ok made) × (new ≡ record old { entries = new.entries })
    × (new.entries.items ≡ old.entries.items ++ made ∷ []) × (length old.entries.items < item_limit)
IsEntryTaken e old new inner (Some refusal) =
    (full : Bool) × IsEntryMade e inner full (Err refusal) × (new ≡ old)
    × (full ≡ true → length old.entries.items ≡ item_limit)
    × (full ≡ false → length old.entries.items < item_limit)

-- the document that is made of a feed, or its refusal
abbrev pub IsDocumentMade : List ℕ → Element → Content → Result DocumentValue (ℕ × FeedWhy) → Type 0
IsDocumentMade address root inner (Ok made) =
    IsDocumentOf address inner made × IsForeignDocument made
    × IsFirst (feed_rules address) (all_placed (feed_rules address) at_root [] (element root inner nothing)) None
IsDocumentMade address root inner (Err refusal) =
    IsFirst (feed_rules address) (all_placed (feed_rules address) at_root [] (element root inner nothing))
    (Some refusal)
