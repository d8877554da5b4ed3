-- Entries (RFC 4287 section 4.1.2) and drafts in contracts, and the entry that is made of a draft.
use Rattle.std.specs.Prelude.{◌≡◌, ℕ, ◌<◌, ◌≤◌, ◌^◌, Option, Some, None, List, [], ℤ, ◌||◌, false, IsTrue, IfSome}
use Rattle.std.specs.Prelude.{is_some, unwrap_or, int_lt, if◌then◌else◌}
use Rattle.atom_values.specs.declared.text.Text.{Text}
use Rattle.atom_values.specs.declared.text.TextKind.TheVariants.{Plain}
use Rattle.atom_values.specs.declared.person.Person.{Person}
use Rattle.atom_values.specs.declared.link.Link.{Link}
use Rattle.atom_values.specs.declared.category.Category.{Category}
use Rattle.atom_values.specs.Category.{IsCategory}
use Rattle.atom_values.specs.Link.{IsLink, has_alternate, has_edit, without_edit}
use Rattle.atom_values.specs.Listed.{IsListOf}
use Rattle.atom_values.specs.Person.{IsPerson}
use Rattle.atom_values.specs.Stamp.{IsStamp}
use Rattle.atom_values.specs.XmlText.{IsAtomText}

-- the greatest number of authors, and of contributors
abbrev pub person_limit : ℕ
person_limit = 16

abbrev pub link_limit : ℕ
link_limit = 32

abbrev pub category_limit : ℕ
category_limit = 64

-- an entry as a client sends it
pub record DraftValue : Type 0 where
  pub id : Option (List ℕ)
  pub title : Text
  pub updated : Option ℤ
  pub published : Option ℤ
  pub authors : List Person
  pub contributors : List Person
  pub links : List Link
  pub categories : List Category
  pub rights : Option Text
  pub summary : Option Text
  pub content : Option Text

-- an entry of the feed: member `number`, last edited at `edited`
pub record EntryValue : Type 0 where
  pub number : ℕ
  pub edited : ℤ
  pub title : Text
  pub updated : ℤ
  pub published : Option ℤ
  pub authors : List Person
  pub contributors : List Person
  pub links : List Link
  pub categories : List Category
  pub rights : Option Text
  pub summary : Option Text
  pub content : Option Text

abbrev pub IsText : Text → Type 0
IsText t = IsAtomText t.value

-- the rules of an entry beside those of its parts: members are counted from 1, no link says where the entry is edited
-- (the server adds that link), and an entry without content has an `alternate` link (RFC 4287 section 4.1.2)
pub record IsWhole (number : ℕ) (links : List Link) (content : Option Text) : Type 0 where
  pub counted : 1 ≤ number
  pub no_edit_link : has_edit links ≡ false
  pub shown : IsTrue (is_some content || has_alternate links)

-- the rules that an entry's types keep
pub record IsEntry (e : EntryValue) : Type 0 where
  pub whole : IsWhole e.number e.links e.content
  pub number : e.number < 2 ^ 32
  pub edited : IsStamp e.edited
  pub title : IsText e.title
  pub updated : IsStamp e.updated
  pub published : IfSome e.published IsStamp
  pub authors : IsListOf person_limit IsPerson e.authors
  pub contributors : IsListOf person_limit IsPerson e.contributors
  pub links : IsListOf link_limit IsLink e.links
  pub categories : IsListOf category_limit IsCategory e.categories
  pub rights : IfSome e.rights IsText
  pub summary : IfSome e.summary IsText
  pub content : IfSome e.content IsText

-- the rules that a draft's types keep
pub record IsDraft (d : DraftValue) : Type 0 where
  pub id : IfSome d.id IsAtomText
  pub title : IsText d.title
  pub updated : IfSome d.updated IsStamp
  pub published : IfSome d.published IsStamp
  pub authors : IsListOf person_limit IsPerson d.authors
  pub contributors : IsListOf person_limit IsPerson d.contributors
  pub links : IsListOf link_limit IsLink d.links
  pub categories : IsListOf category_limit IsCategory d.categories
  pub rights : IfSome d.rights IsText
  pub summary : IfSome d.summary IsText
  pub content : IfSome d.content IsText

-- a draft with this plain title and nothing else
abbrev pub titled : List ℕ → DraftValue
titled title = record {
  id = None;
  title = record { kind = Plain; value = title };
  updated = None;
  published = None;
  authors = [];
  contributors = [];
  links = [];
  categories = [];
  rights = None;
  summary = None;
  content = None;
}

-- the empty plain text
abbrev pub empty_text : Text
empty_text = record { kind = Plain; value = [] }

-- the later of a timestamp and the stored one, if one is stored
abbrev pub not_before : ℤ → Option ℤ → ℤ
not_before moment stored = let s = unwrap_or stored moment in if int_lt moment s then s else moment

-- the content, or the empty text if there is neither content nor an `alternate` link
abbrev pub shown_content : Option Text → List Link → Option Text
shown_content content links = if is_some content || has_alternate links then content else Some empty_text

-- the entry that the server makes of a draft (RFC 5023 section 9.2 lets it change the draft): a missing `updated` is
-- the moment, `updated` is never before the stored one, links of relation `edit` are dropped, and missing content is
-- the empty text unless there is an `alternate` link
unfoldable pub normal : DraftValue → ℕ → ℤ → Option ℤ → EntryValue
normal draft number moment stored = record {
  number = number;
  edited = moment;
  title = draft.title;
  updated = not_before (unwrap_or draft.updated moment) stored;
  published = draft.published;
  authors = draft.authors;
  contributors = draft.contributors;
  links = without_edit draft.links;
  categories = draft.categories;
  rights = draft.rights;
  summary = draft.summary;
  content = shown_content draft.content (without_edit draft.links);
}
