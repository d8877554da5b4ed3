-- What a feed document says (RFC 4287, RFC 5005, RFC 6721).
use Rattle.std.specs.Prelude.{◌≡◌, ℕ, ℤ, List, [], find, Bool, false, ◌||◌, if◌then◌else◌}
use Rattle.std.specs.Prelude.{Option, Some, None, option_map, option_and_then, unwrap_or, Ok, Err, codes, bytes_eq}
use Rattle.std.specs.List.{AllZip}
use Rattle.std.specs.Str.{is_utf8}
use Rattle.url.specs.Parser.{Parsed, parse_url}
use Rattle.url.specs.Parts.{Parts, serialize}
use Rattle.atom_values.specs.DateText.{States}
use Rattle.atom_values.specs.Listed.{IsListOf}
use Rattle.atom_values.specs.Space.{trimmed}
use Rattle.atom_values.specs.Stamp.{IsStamp}
use Rattle.atom_values.specs.XmlText.{IsAtomText}
use Rattle.feed_reader.specs.declared.values.ForeignEntry.{ForeignEntry}
use Rattle.feed_reader.specs.declared.values.ForeignGone.{ForeignGone}
use Rattle.xml_tokens.specs.Tree.{Content}
use Rattle.xml_tokens.specs.Children.{Child, attribute, child, named, whole_text_of}
use Rattle.xml_tokens.specs.Names.{atom, tombstones}

-- the greatest number of entries of a feed document, and of tombstones
abbrev pub item_limit : ℕ
item_limit = 10_000

-- a feed document as a mirror takes it
pub record DocumentValue : Type 0 where
  pub id : List ℕ
  pub updated : ℤ
  pub prev : Option (List ℕ)
  pub entries : List ForeignEntry
  pub gone : List ForeignGone

-- the rules that the types of an entry keep
pub record IsForeignEntry (e : ForeignEntry) : Type 0 where
  pub id : IsAtomText e.id
  pub title : IsAtomText e.title
  pub updated : IsStamp e.updated

-- the rules that the types of a tombstone keep
pub record IsForeignGone (g : ForeignGone) : Type 0 where
  pub id : IsAtomText g.id
  pub when : IsStamp g.when

-- the rules that the types of a document keep
pub record IsForeignDocument (d : DocumentValue) : Type 0 where
  pub id : IsAtomText d.id
  pub updated : IsStamp d.updated
  pub entries : IsListOf item_limit IsForeignEntry d.entries
  pub gone : IsListOf item_limit IsForeignGone d.gone

-- all characters of an element
abbrev pub whole_text : Child → List ℕ
whole_text c = whole_text_of c.content

-- the text of an identifier or a date
abbrev pub cut_text : Child → List ℕ
cut_text c = trimmed (whole_text c)

-- the relation of a link to the archive before (RFC 5005 section 4), which may stand as its full IRI
abbrev pub is_prev_relation : Option (List ℕ) → Bool
is_prev_relation None = false
is_prev_relation (Some rel) =
    bytes_eq rel (codes "prev-archive")
    || bytes_eq rel (codes "http://www.iana.org/assignments/relation/prev-archive")

abbrev pub is_prev : Child → Bool
is_prev c = is_prev_relation (attribute (codes "rel") c)

-- the text of a URL that is read
abbrev pub url_text : Parsed Parts → Option (List ℕ)
url_text (Ok url) = Some (serialize url)
url_text (Err fault) = None

-- the reference, read with this base, unless the base isn't read itself
abbrev pub based : Parsed Parts → List ℕ → Option (List ℕ)
based (Ok base) reference = url_text (parse_url (Some base) reference)
based (Err fault) reference = None

-- the address that a reference in the document of an address leads to (URL Standard section 4.4)
abbrev pub joined_to : List ℕ → List ℕ → Option (List ℕ)
joined_to address reference = if is_utf8 address then based (parse_url None address) reference else None

-- the address that a link leads to
abbrev pub target : List ℕ → Child → Option (List ℕ)
target address c = option_and_then (joined_to address) (attribute (codes "href") c)

-- the address of the archive before the document; the first link to it counts
abbrev pub prev_of : List ℕ → Content → Option (List ℕ)
prev_of address inner = option_and_then (target address) (find is_prev (named (atom (codes "link")) inner))

-- the date of a child states the timestamp
abbrev pub StatesMoment : Option Child → ℤ → Type 0
StatesMoment date moment = (c : Child) × (date ≡ Some c) × States (cut_text c) moment

-- an element is read as this entry, if none of its children is refused; a missing title is the empty text
pub record IsEntryOf (c : Child) (e : ForeignEntry) : Type 0 where
  pub id : option_map cut_text (child (codes "id") c.content) ≡ Some e.id
  pub title : e.title ≡ unwrap_or (option_map whole_text (child (codes "title") c.content)) []
  pub updated : StatesMoment (child (codes "updated") c.content) e.updated

-- an element is read as this tombstone, if it isn't refused
pub record IsGoneOf (c : Child) (g : ForeignGone) : Type 0 where
  pub id : option_map trimmed (attribute (codes "ref") c) ≡ Some g.id
  pub when : (date : List ℕ) × (attribute (codes "when") c ≡ Some date) × States (trimmed date) g.when

-- the content of a feed in the document of an address is read as this, if none of its elements is refused
pub record IsDocumentOf (address : List ℕ) (inner : Content) (d : DocumentValue) : Type 0 where
  pub id : option_map cut_text (child (codes "id") inner) ≡ Some d.id
  pub updated : StatesMoment (child (codes "updated") inner) d.updated
  pub prev : d.prev ≡ prev_of address inner
  pub entries : AllZip IsEntryOf (named (atom (codes "entry")) inner) d.entries
  pub gone : AllZip IsGoneOf (named (tombstones (codes "deleted-entry")) inner) d.gone
