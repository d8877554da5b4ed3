-- The parts that a reader has read of an entry so far, and of an element in it.
use Rattle.std.specs.Prelude.{◌≡◌, ◌≢◌, ◌⊎◌, ℕ, ◌≤◌, List, [], ◌∷◌, ◌++◌, map, filter, length, Bool, true, false}
use Rattle.std.specs.Prelude.{Option, Some, None}
use Rattle.std.specs.Prelude.{if◌then◌else◌, option_map, is_some, IsTrue, ◌&&◌, not, bytes_eq, Result, Ok, Err, codes}
use Rattle.std.specs.Prelude.{ℤ}
use Rattle.std.specs.List.{list_any}
use Rattle.std.specs.Option.{option_or}
use Rattle.atom_values.specs.declared.category.Category.{Category}
use Rattle.atom_values.specs.declared.link.Link.{Link}
use Rattle.atom_values.specs.declared.person.Person.{Person}
use Rattle.atom_values.specs.declared.text.Text.{Text}
use Rattle.atom_values.specs.declared.text.TextKind.{TextKind}
use Rattle.atom_values.specs.declared.text.TextKind.TheVariants.{Plain, Html}
use Rattle.atom_values.specs.DateText.{States}
use Rattle.atom_values.specs.Entry.{DraftValue}
use Rattle.atom_values.specs.Space.{trimmed}
use Rattle.xml_tokens.specs.declared.elements.Elements.{Elements}
use Rattle.entry_reader.specs.declared.entry.Parts.{Parts}
use Rattle.xml_tokens.specs.declared.fault.TokenFault.{TokenFault}
use Rattle.entry_reader.specs.declared.fault.EarlyEnd.{EarlyEnd}
use Rattle.entry_reader.specs.declared.fault.EarlyEnd.TheVariants.{Refused, Fault}
use Rattle.entry_reader.specs.declared.fault.Why.{Why}
use Rattle.entry_reader.specs.declared.fault.Why.TheVariants.{Missing, NotAnEntry, OutOfLine, TooMany, Twice, Xhtml}
use Rattle.entry_reader.specs.declared.person.Field.{Field}
use Rattle.entry_reader.specs.declared.person.Field.TheVariants.{Name as NameField, Uri, Email}
use Rattle.entry_reader.specs.declared.person.Fields.{Fields}
use Rattle.xml_tokens.specs.Tokens.{Attribute}
use Rattle.xml_tokens.specs.Tree.{Name, Element, Content, Event, contents}
use Rattle.xml_tokens.specs.Tree.Content.{nothing, element}
use Rattle.entry_reader.specs.Entry.{IsMoment, IsReadAs, category}
use Rattle.xml_tokens.specs.Children.{Child, attribute_in, child, child_text, children, with_child}
use Rattle.xml_tokens.specs.Names.{app, atom}
use Rattle.entry_reader.specs.Entry.{construct, link, person}
use Rattle.xml_tokens.specs.Children.{named, same_name, text_of}
use Rattle.entry_reader.specs.Faults.{Within, IsRefusalIn, is_one_of, person_parts}
use Rattle.entry_reader.specs.Faults.Within.{in_entry, in_person}
use Rattle.entry_reader.specs.Refusal.{IsNoEntryAt}
use Rattle.xml_tokens.specs.Progress.{Point, AreInner, IsFaultFrom, IsLed}

-- the elements of a content, without those inside them
abbrev pub elements_of : Content → List Element
elements_of b = map (λ (c : Child). c.element) (children b)

-- how many of the elements have this name
abbrev pub count_of : Name → List Element → ℕ
count_of name before = length (filter (λ (e : Element). same_name e.name name) before)

-- neither the element nor one in it is refused
abbrev pub IsFaultlessIn : Within → List Element → Element → Content → Type 0
IsFaultlessIn within before e inner = IsRefusalIn within before (element e inner nothing) None

-- Behind the events that are read inside an element, whatever follows in it and after it, the first fault from the
-- element on is this one.
abbrev pub Refuses : Within → List Element → Element → List Event → ℕ → Why → Type 0
Refuses within before e told at why =
    (later : List Event) (inner rest : Content) (outer : List Content) → contents (told ++ later) ≡ inner ∷ rest ∷ outer
    → IsRefusalIn within before (element e inner rest) (Some (at, why))

-- why the reading of an element ends early
abbrev pub IsStopped : ℕ → List Event → Point → Within → List Element → Element → EarlyEnd → Elements → Type 0
IsStopped total first from within before e (Fault fault) new = IsFaultFrom total from fault
IsStopped total first from within before e (Refused at why) new =
    (told : List Event) × IsLed total first from told new × Refuses within before e told at why

-- the rest of an element is read, of which R says what is made of its content
abbrev pub IsPartRead : {A : Type 0} → ℕ → List Event → Point → Within → List Element → Element →
    (Content → A → Type 0) → Result A EarlyEnd → Elements → Type 0
IsPartRead total first from within before e R (Ok value) new =
    (inner : Content) × (told : List Event) × IsLed total first from told new × AreInner inner told × R inner value
IsPartRead total first from within before e R (Err stop) new = IsStopped total first from within before e stop new

-- a slot has something exactly if an element of the name is before
abbrev pub IsSlot : Name → List Element → Bool → Type 0
IsSlot name before taken = (taken ≡ true → 1 ≤ count_of name before) × (taken ≡ false → count_of name before ≡ 0)

-- the kind of a text construct, by its `type`
abbrev pub IsKindRead : Option (List ℕ) → Why → Result TextKind Why → Type 0
IsKindRead type unknown (Ok Plain) = (type ≡ None) ⊎ (type ≡ Some (codes "text"))
IsKindRead type unknown (Ok Html) = type ≡ Some (codes "html")
IsKindRead type unknown (Err why) =
    ((type ≡ Some (codes "xhtml")) × (why ≡ Xhtml))
    ⊎ (((kind : List ℕ) × (type ≡ Some kind) × (kind ≢ codes "text") × (kind ≢ codes "html") × (kind ≢ codes "xhtml"))
    × (why ≡ unknown))

-- the kind of an entry's content, by its attributes; content that is elsewhere is refused
abbrev pub IsContentKind : List Attribute → Result TextKind Why → Type 0
IsContentKind attributes (Ok kind) =
    IsKindRead (attribute_in (codes "type") attributes) OutOfLine (Ok kind)
    × (attribute_in (codes "src") attributes ≡ None)
IsContentKind attributes (Err why) =
    IsKindRead (attribute_in (codes "type") attributes) OutOfLine (Err why)
    ⊎ ((kind : TextKind) × IsKindRead (attribute_in (codes "type") attributes) OutOfLine (Ok kind)
    × IsTrue (is_some (attribute_in (codes "src") attributes)) × (why ≡ OutOfLine))

-- the kind of a text construct, or why it is refused for its attributes
abbrev pub IsConstructKind : Element → Result TextKind Why → Type 0
IsConstructKind e kind =
    (same_name e.name (atom (codes "content")) ≡ true → IsContentKind e.attributes kind)
    × (same_name e.name (atom (codes "content")) ≡ false →
    IsKindRead (attribute_in (codes "type") e.attributes) NotAnEntry kind)

-- the field that an element of a person has
abbrev pub field_name : Field → List ℕ
field_name NameField = codes "name"
field_name Uri = codes "uri"
field_name Email = codes "email"

abbrev pub IsFieldOf : Name → Option Field → Type 0
IsFieldOf name None = is_one_of person_parts name ≡ false
IsFieldOf name (Some field) = IsTrue (same_name name (atom (field_name field)))

-- the fields of a person whose content is read so far; of two elements of a name the last one
pub record AreFieldsOf (b : Content) (fields : Fields) : Type 0 where
  pub name : is_some fields.name ≡ is_some (child (codes "name") b)
  pub uri : is_some fields.uri ≡ is_some (child (codes "uri") b)
  pub email : is_some fields.email ≡ is_some (child (codes "email") b)
  pub refused : IsRefusalIn in_person [] b fields.refused
  pub read : fields.refused ≡ None →
      (fields.name ≡ option_map child_text (child (codes "name") b))
      × (fields.uri ≡ option_map child_text (child (codes "uri") b))
      × (fields.email ≡ option_map child_text (child (codes "email") b))

-- why a child of a person is refused, whose slot has something already or not
abbrev pub slot_refusal : Bool → ℕ → Option ℕ → Option (ℕ × Why)
slot_refusal taken at inner = if taken then Some (at, Twice) else option_map (λ place. (place, NotAnEntry)) inner

-- the fields after a child with this text, whose first element is at `inner`
abbrev pub taken_fields : Field → List ℕ → Option ℕ → ℕ → Fields → Fields
taken_fields NameField text inner at old = record old {
  name = Some text;
  refused = option_or old.refused (slot_refusal (is_some old.name) at inner);
}
taken_fields Uri text inner at old = record old {
  uri = Some text;
  refused = option_or old.refused (slot_refusal (is_some old.uri) at inner);
}
taken_fields Email text inner at old = record old {
  email = Some text;
  refused = option_or old.refused (slot_refusal (is_some old.email) at inner);
}

-- the person with this name, unless a child is refused
abbrev pub named_person : List ℕ → Fields → Option (ℕ × Why) → Result Person EarlyEnd
named_person name fields None = Ok (record { name = name; uri = fields.uri; email = fields.email })
named_person name fields (Some (at, why)) = Err (Refused at why)

-- the person with these fields at an offset, or why it is refused
abbrev pub person_in : Option (List ℕ) → Fields → ℕ → Bool → Result Person EarlyEnd
person_in None fields at full = Err (Refused at Missing)
person_in (Some name) fields at full =
    if full then Err (Refused at TooMany) else named_person name fields fields.refused

abbrev pub person_of : Fields → ℕ → Bool → Result Person EarlyEnd
person_of fields at full = person_in fields.name fields at full

-- the rest of a child of a person is read
abbrev pub IsFieldsChild : ℕ → List Event → Point → Content → Element → Result (Unit {0}) TokenFault → Fields → Elements
    → Type 0
IsFieldsChild total first from b e (Ok done) fields new =
    (inner : Content) × (told : List Event) × IsLed total first from told new × AreInner inner told
    × AreFieldsOf (with_child b e inner) fields
IsFieldsChild total first from b e (Err fault) fields new = IsFaultFrom total from fault

-- the rest of a person is read
abbrev pub AreFieldsFrom : ℕ → List Event → Point → Result Fields TokenFault → Elements → Type 0
AreFieldsFrom total first from (Ok fields) new =
    (inner : Content) × (told : List Event) × IsLed total first from told new × AreInner inner told
    × AreFieldsOf inner fields
AreFieldsFrom total first from (Err fault) new = IsFaultFrom total from fault

-- the parts are those of the entry's content that was read so far
pub record IsSoFar (b : Content) (parts : Parts) : Type 0 where
  pub id : parts.id ≡ option_map (λ c. trimmed (child_text c)) (child (codes "id") b)
  pub title : parts.title ≡ option_map construct (child (codes "title") b)
  pub updated : IsMoment (child (codes "updated") b) parts.updated
  pub published : IsMoment (child (codes "published") b) parts.published
  pub authors : parts.authors.items ≡ map person (named (atom (codes "author")) b)
  pub contributors : parts.contributors.items ≡ map person (named (atom (codes "contributor")) b)
  pub links : parts.links.items ≡ map link (named (atom (codes "link")) b)
  pub categories : parts.categories.items ≡ map category (named (atom (codes "category")) b)
  pub rights : parts.rights ≡ option_map construct (child (codes "rights") b)
  pub summary : parts.summary ≡ option_map construct (child (codes "summary") b)
  pub content : parts.content ≡ option_map construct (child (codes "content") b)
  pub faultless : IsRefusalIn in_entry [] b None

-- the rest of an entry is read, or why a child is refused, whatever follows
abbrev pub ArePartsFrom : ℕ → List Event → Point → Result Parts EarlyEnd → Elements → Type 0
ArePartsFrom total first from (Ok parts) new =
    (inner : Content) × (told : List Event) × IsLed total first from told new × AreInner inner told
    × IsSoFar inner parts
ArePartsFrom total first from (Err (Fault fault)) new = IsFaultFrom total from fault
ArePartsFrom total first from (Err (Refused at why)) new =
    (told : List Event) × IsLed total first from told new
    × ((later : List Event) (inner rest : Content) (outer : List Content) →
    contents (told ++ later) ≡ inner ∷ rest ∷ outer → IsRefusalIn in_entry [] inner (Some (at, why)))

-- the whole entry is read, or why not
abbrev pub IsEntryFrom : ℕ → List Event → Point → Element → Result DraftValue EarlyEnd → Elements → Type 0
IsEntryFrom total first from root (Ok draft) new =
    (inner : Content) × (told : List Event) × (more : List Event) × IsLed total first from (told ++ more) new
    × AreInner inner told × (root.name ≡ atom (codes "entry")) × IsRefusalIn in_entry [] inner None
    × IsReadAs inner draft
IsEntryFrom total first from root (Err (Fault fault)) new = IsFaultFrom total from fault
IsEntryFrom total first from root (Err (Refused at why)) new =
    (told : List Event) × IsLed total first from told new
    × ((later : List Event) (inner rest : Content) (outer : List Content) →
    contents (told ++ later) ≡ inner ∷ rest ∷ outer
    → IsNoEntryAt root inner at why)

-- a date element sets its slot
abbrev pub IsDateMade : List Element → Element → Option ℤ → Content → Unit {0} → Type 0
IsDateMade before e slot inner _ =
    ((z : ℤ) × (slot ≡ Some z) × States (trimmed (text_of inner)) z) × IsFaultlessIn in_entry before e inner

-- a text construct sets its slot
abbrev pub IsConstructMade : List Element → Element → Option Text → Content → Unit {0} → Type 0
IsConstructMade before e slot inner _ =
    (slot ≡ Some (construct (record { element = e; content = inner }))) × IsFaultlessIn in_entry before e inner

-- an element of a list is added at the end of its list
abbrev pub IsItemMade : {A : Type 0} → (Child → A) → List Element → Element → List A → List A → Content → Unit {0} →
    Type 0
IsItemMade make before e old new inner _ =
    (new ≡ old ++ make (record { element = e; content = inner }) ∷ []) × IsFaultlessIn in_entry before e inner

-- the names of an entry's children that are no text constructs
abbrev pub other_names : List (List ℕ)
other_names =
    codes "id" ∷ codes "updated" ∷ codes "published" ∷ codes "author" ∷ codes "contributor" ∷ codes "link"
    ∷ codes "category" ∷ []

-- the rest of a child of a control element is read, and whether it says that the entry is a draft
abbrev pub IsDraftRead : ℕ → List Event → Point → Element → Result Bool TokenFault → Elements → Type 0
IsDraftRead total first from e (Ok is_draft) new =
    (inner : Content) × (told : List Event) × IsLed total first from told new × AreInner inner told
    × (is_draft ≡ (same_name e.name (app (codes "draft")) && not (bytes_eq (trimmed (text_of inner)) (codes "no"))))
IsDraftRead total first from e (Err fault) new = IsFaultFrom total from fault

-- a `draft` element of a control element says that the entry is a draft
abbrev pub has_draft : Content → Bool
has_draft inner =
    list_any (λ c. not (bytes_eq (trimmed (child_text c)) (codes "no"))) (named (app (codes "draft")) inner)

-- the rest of a control element is read, and whether it says that the entry is a draft
abbrev pub IsControlRead : ℕ → List Event → Point → Result Bool TokenFault → Elements → Type 0
IsControlRead total first from (Ok is_draft) new =
    (inner : Content) × (told : List Event) × IsLed total first from told new × AreInner inner told
    × (is_draft ≡ has_draft inner)
IsControlRead total first from (Err fault) new = IsFaultFrom total from fault

-- the link that an element's attributes state, if it has `href`
abbrev pub link_in : Element → Option Link
link_in e =
    option_map (λ href. link (record { element = e; content = nothing })) (attribute_in (codes "href") e.attributes)

-- the category that an element's attributes state, if it has `term`
abbrev pub category_in : Element → Option Category
category_in e =
    option_map (λ term. category (record { element = e; content = nothing })) (attribute_in (codes "term") e.attributes)
