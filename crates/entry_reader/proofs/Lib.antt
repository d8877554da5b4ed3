-- the children of a name, and the elements that are refused in a person or a text
pub mod PlacedLemmas
-- Fields::child, read_fields: the fields of a person
pub mod FieldLemmas
-- person: its own refusals, and those of its children
pub mod PersonLemmas
-- read_entry: the draft that is spelled, and refusals of a document
pub mod DraftLemmas
-- entry, read_parts: the children of an entry, and what is made of them
pub mod EntryLemmas
-- Parts::id, link, category, date, construct, control: their own refusals, and those in them
pub mod ChildLemmas
-- construct: the types of text constructs
pub mod ConstructLemmas
-- Parts::link, category, control: what they are refused for
pub mod ItemLemmas
-- Parts::child, other: what is read of an entry so far
pub mod SoFarLemmas
-- is_draft, control: which control elements say that an entry is a draft
pub mod ControlLemmas
-- bytes_are_read_in_one_way: the clauses `refusals` and `apart`
pub mod OneRefusalLemmas
