-- The piece of an item, part by part.
use Rattle.std.specs.Prelude.{◌≡◌, ℕ, ◌≤◌, ◌<◌, ◌^◌, List, [], false, if◌then◌else◌, bytes_eq, Option, ℤ, codes}
use Rattle.atom_values.specs.declared.category.Category.{Category}
use Rattle.atom_values.specs.declared.link.Link.{Link}
use Rattle.atom_values.specs.declared.person.Person.{Person}
use Rattle.atom_values.specs.declared.text.Text.{Text}
use Rattle.atom_values.specs.declared.text.TextKind.{TextKind}
use Rattle.atom_values.specs.Category.{IsCategory}
use Rattle.atom_values.specs.Entry.{EntryValue, IsEntry, IsText, person_limit, link_limit, category_limit}
use Rattle.atom_values.specs.Link.{IsLink}
use Rattle.atom_values.specs.Person.{IsPerson}
use Rattle.atom_values.specs.XmlText.{IsAtomText}
use Rattle.deleted_entries.specs.Item.{IsItem}
use Rattle.deleted_entries.specs.Tombstone.{TombstoneValue, IsTombstone}
use Rattle.deleted_entries.specs.declared.item.Item.{Item}
use Rattle.atom_writer.specs.declared.doc.FeedName.{FeedName}
use Rattle.atom_writer.specs.Parts.{link_text, category_text}
use Rattle.atom_writer.specs.Entries.{open_attributes, edit_link}
use Rattle.atom_writer.specs.Pieces.{entry_piece, tombstone_piece, item_piece}
use Rattle.atom_grammar.specs.EntryParts.{DatesValue, FrontValue, TextsValue, DetailsValue, BackValue}
use Rattle.atom_grammar.specs.Parts.{Part, Anything, starts, content, quoted, moment, member, both, behind, ended, optional, many, alone}

-- a text between these tags
abbrev pub element : List ℕ → List ℕ → Part (List ℕ)
element start end = alone (ended (behind start content) end)

-- an attribute whose name and opening quote are `start`
abbrev pub attribute : List ℕ → Part (List ℕ)
attribute start = alone (ended (behind start quoted) (codes "\""))

-- a timestamp between these tags
abbrev pub date : List ℕ → List ℕ → Part ℤ
date start end = alone (ended (behind start moment) end)

-- the attribute that states the kind of a text
unfoldable pub kind : Part TextKind
kind =
    record {
      Is = λ _. Unit {0};
      text = open_attributes;
      Before =
          λ rest. starts (codes " type=\"html\"") rest ≡ false;
    }

abbrev pub construct_parts : List ℕ → List ℕ → Part (TextKind × List ℕ)
construct_parts start end = ended (both (ended (behind start kind) (codes ">")) content) end

-- a text construct, whose open tag begins with `start`
unfoldable pub construct : List ℕ → List ℕ → Part Text
construct start end = record {
  Is = IsText;
  text = λ t. (construct_parts start end).text (t.kind, t.value);
  Before = Anything;
}

abbrev pub person_parts : List ℕ → List ℕ → Part ((List ℕ × Option (List ℕ)) × Option (List ℕ))
person_parts start end =
    ended (both (both (behind start (element (codes "<name>") (codes "</name>")))
    (optional (codes "<uri>") (element (codes "<uri>") (codes "</uri>"))))
    (optional (codes "<email>") (element (codes "<email>") (codes "</email>")))) end

unfoldable pub person : List ℕ → List ℕ → Part Person
person start end = record {
  Is = IsPerson;
  text = λ p. (person_parts start end).text ((p.name, p.uri), p.email);
  Before = Anything;
}

abbrev pub persons : List ℕ → List ℕ → Part (List Person)
persons start end = many person_limit start (person start end)

-- the relation of a link, which is written only if it isn't `alternate`
abbrev pub relation_text : List ℕ → List ℕ
relation_text rel = if bytes_eq rel (codes "alternate") then [] else (attribute (codes " rel=\"")).text rel

unfoldable pub relation : Part (List ℕ)
relation = record { Is = IsAtomText; text = relation_text; Before = λ rest. starts (codes " rel=\"") rest ≡ false }

abbrev pub optional_attribute : List ℕ → Part (Option (List ℕ))
optional_attribute start = optional start (attribute start)

abbrev pub link_parts : Part
    (((((List ℕ × List ℕ) × Option (List ℕ)) × Option (List ℕ)) × Option (List ℕ)) × Option (List ℕ))
link_parts =
    ended (both (both (both (both (both (behind (codes "<link") relation) (attribute (codes " href=\"")))
    (optional_attribute (codes " type=\""))) (optional_attribute (codes " hreflang=\"")))
    (optional_attribute (codes " title=\""))) (optional_attribute (codes " length=\""))) (codes "/>")

unfoldable pub link : Part Link
link = record { Is = IsLink; text = link_text; Before = Anything }

abbrev pub category_parts : Part ((List ℕ × Option (List ℕ)) × Option (List ℕ))
category_parts =
    ended (both (both (behind (codes "<category") (attribute (codes " term=\"")))
    (optional_attribute (codes " scheme=\""))) (optional_attribute (codes " label=\""))) (codes "/>")

unfoldable pub category : Part Category
category = record { Is = IsCategory; text = category_text; Before = Anything }

unfoldable pub tombstone : FeedName → Part TombstoneValue
tombstone name = record { Is = IsTombstone; text = tombstone_piece name; Before = Anything }

abbrev pub links : Part (List Link)
links = many link_limit (codes "<link") link

abbrev pub categories : Part (List Category)
categories = many category_limit (codes "<category") category

-- the link to a member's own address, by the member's number
unfoldable pub editing : FeedName → Part ℕ
editing name = record { Is = λ n. (1 ≤ n) × (n < 2 ^ 32); text = edit_link name; Before = Anything }

abbrev pub whole_construct : List ℕ → List ℕ → Part (Option Text)
whole_construct start end = optional start (construct start end)

-- the identifier of a member, by the member's number
abbrev pub identifier : FeedName → Part ℕ
identifier name = ended (behind (codes "<id>") (member name.id)) (codes "</id>")

abbrev pub dates : Part DatesValue
dates =
    both (date (codes "<updated>") (codes "</updated>"))
    (both (optional (codes "<published>") (date (codes "<published>") (codes "</published>")))
    (date (codes "<app:edited>") (codes "</app:edited>")))

-- the parts of an entry before its authors
abbrev pub front : FeedName → Part FrontValue
front name = both (identifier name) (both (construct (codes "<title") (codes "</title>")) dates)

abbrev pub texts : Part TextsValue
texts =
    both (whole_construct (codes "<rights") (codes "</rights>"))
    (both (whole_construct (codes "<summary") (codes "</summary>"))
    (whole_construct (codes "<content") (codes "</content>")))

-- the parts after the link for editing
abbrev pub details : Part DetailsValue
details = both links (both categories texts)

-- the parts after the authors
abbrev pub back : FeedName → Part BackValue
back name = both (persons (codes "<contributor>") (codes "</contributor>")) (both (editing name) details)

unfoldable pub entry : FeedName → Part EntryValue
entry name = record { Is = IsEntry; text = entry_piece name; Before = Anything }

unfoldable pub item : FeedName → Part Item
item name = record { Is = IsItem; text = item_piece name; Before = Anything }
