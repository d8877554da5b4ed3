-- The elements of an entry document that are refused.
use Rattle.std.specs.Prelude.{◌≡◌, ◌≢◌, ◌⊎◌, ℕ, ℤ, ◌≤◌, List, [], ◌∷◌, ◌++◌, Any, Bool, IsTrue}
use Rattle.std.specs.Prelude.{if◌then◌else◌, Option, Some, None, is_some, codes}
use Rattle.std.specs.List.{list_any}
use Rattle.atom_values.specs.DateText.{States}
use Rattle.atom_values.specs.Entry.{person_limit, link_limit, category_limit}
use Rattle.atom_values.specs.Space.{trimmed}
use Rattle.entry_reader.specs.declared.fault.Why.{Why}
use Rattle.entry_reader.specs.declared.fault.Why.TheVariants.{NotUtf8, Doctype, NotWellFormed, TooDeep, NotAnEntry}
use Rattle.entry_reader.specs.declared.fault.Why.TheVariants.{Xhtml, OutOfLine, Draft, Missing, Twice, BadDate, TooMany}
use Rattle.xml_tokens.specs.Tree.{Name, Element, Content}
use Rattle.xml_tokens.specs.Children.{same_name, attribute, child, child_text, named}
use Rattle.xml_tokens.specs.Names.{atom, app}
use Rattle.xml_tokens.specs.Order.{Placed, Rules, IsFirst, all_placed, count_before, name_of}

-- where an element is: in the entry, a person, a text, or an element that is skipped
pub data Within : Type 0 where
  in_entry : Within
  in_person : Within
  in_text : Within
  in_skipped : Within

-- Atom's elements of these names
abbrev pub is_one_of : List (List ℕ) → Name → Bool
is_one_of locals name = list_any (λ local. same_name name (atom local)) locals

abbrev pub persons : List (List ℕ)
persons = codes "author" ∷ codes "contributor" ∷ []

abbrev pub dates : List (List ℕ)
dates = codes "updated" ∷ codes "published" ∷ []

-- the text constructs that may not be out of line
abbrev pub inline_texts : List (List ℕ)
inline_texts = codes "title" ∷ codes "rights" ∷ codes "summary" ∷ []

abbrev pub constructs : List (List ℕ)
constructs = codes "content" ∷ inline_texts

-- the children of an entry that it has once at most
abbrev pub single_parts : List (List ℕ)
single_parts = codes "id" ∷ dates ++ constructs

abbrev pub person_parts : List (List ℕ)
person_parts = codes "name" ∷ codes "uri" ∷ codes "email" ∷ []

-- where the elements inside an element of this name are
abbrev pub inside_of : Within → Name → Within
inside_of in_entry name =
    if is_one_of single_parts name then in_text else (if is_one_of persons name then in_person else in_skipped)
inside_of in_person name = if is_one_of person_parts name then in_text else in_skipped
inside_of _ name = in_skipped

-- the element is in this kind of place, and has one of these names of Atom
abbrev pub Is : Within → List (List ℕ) → Placed Within → Type 0
Is within locals p = (p.within ≡ within) × IsTrue (is_one_of locals (name_of p))

abbrev pub type_of : Placed Within → Option (List ℕ)
type_of p = attribute (codes "type") p.child

-- its `type` is another than those of a text construct (RFC 4287 section 3.1.1)
abbrev pub HasOtherType : Placed Within → Type 0
HasOtherType p =
    (kind : List ℕ) × (type_of p ≡ Some kind) × (kind ≢ codes "text") × (kind ≢ codes "html") × (kind ≢ codes "xhtml")

-- it says that the entry is a draft: not each of its `draft` elements has the text `no` (RFC 5023 section 13.1.1)
abbrev pub SaysDraft : Placed Within → Type 0
SaysDraft p =
    (p.within ≡ in_entry) × IsTrue (same_name (name_of p) (app (codes "control")))
    × Any (λ c. trimmed (child_text c) ≢ codes "no") (named (app (codes "draft")) p.child.content)

-- it lacks the child or the attribute that it must have
abbrev pub LacksPart : Placed Within → Type 0
LacksPart p =
    (Is in_entry persons p × (child (codes "name") p.child.content ≡ None))
    ⊎ (Is in_entry (codes "link" ∷ []) p × (attribute (codes "href") p.child ≡ None))
    ⊎ (Is in_entry (codes "category" ∷ []) p × (attribute (codes "term") p.child ≡ None))

-- it is one more than an entry may have
abbrev pub IsPastLimit : Placed Within → Type 0
IsPastLimit p =
    (Is in_entry persons p × (person_limit ≤ count_before p))
    ⊎ (Is in_entry (codes "link" ∷ []) p × (link_limit ≤ count_before p))
    ⊎ (Is in_entry (codes "category" ∷ []) p × (category_limit ≤ count_before p))

-- the reason holds of the element; the first four are of the text and not of elements
abbrev pub HasFault : Why → Placed Within → Type 0
HasFault NotUtf8 p = ⊥
HasFault Doctype p = ⊥
HasFault NotWellFormed p = ⊥
HasFault TooDeep p = ⊥
HasFault NotAnEntry p = (p.within ≡ in_text) ⊎ (Is in_entry inline_texts p × HasOtherType p)
HasFault Xhtml p = Is in_entry constructs p × (type_of p ≡ Some (codes "xhtml"))
HasFault OutOfLine p =
    Is in_entry (codes "content" ∷ []) p × (IsTrue (is_some (attribute (codes "src") p.child)) ⊎ HasOtherType p)
HasFault Draft p = SaysDraft p
HasFault Missing p = LacksPart p
HasFault Twice p = (Is in_entry single_parts p ⊎ Is in_person person_parts p) × (1 ≤ count_before p)
HasFault BadDate p = Is in_entry dates p × ((z : ℤ) → ¬ States (trimmed (child_text p.child)) z)
HasFault TooMany p = IsPastLimit p

-- the order in which the reasons of one element are tried
abbrev pub rank : Why → ℕ
rank NotAnEntry = 1
rank Xhtml = 2
rank OutOfLine = 3
rank Draft = 4
rank Missing = 5
rank Twice = 6
rank BadDate = 7
rank TooMany = 8
rank _ = 0

-- the rules by which the elements of an entry document are refused
abbrev pub entry_rules : Rules Within Why
entry_rules = record {
  inside = inside_of;
  Has = HasFault;
  rank = rank;
}

-- The first refusal of the elements of a content, if there is one. The content is in a place of this kind, after the
-- elements `before`.
abbrev pub IsRefusalIn : Within → List Element → Content → Option (ℕ × Why) → Type 0
IsRefusalIn within before content refusal = IsFirst entry_rules (all_placed entry_rules within before content) refusal
