-- The parts of an entry as contracts see them: nested pairs, in the order in which they are read.
use Rattle.std.specs.Prelude.{ℕ, List, Option, ℤ}
use Rattle.atom_values.specs.declared.category.Category.{Category}
use Rattle.atom_values.specs.declared.link.Link.{Link}
use Rattle.atom_values.specs.declared.person.Person.{Person}
use Rattle.atom_values.specs.declared.text.Text.{Text}
use Rattle.atom_values.specs.Entry.{EntryValue}
use Rattle.atom_grammar.specs.declared.entry_parts.Dates.{Dates}
use Rattle.atom_grammar.specs.declared.entry_parts.Front.{Front}
use Rattle.atom_grammar.specs.declared.entry_parts.Texts.{Texts}
use Rattle.atom_grammar.specs.declared.entry_parts.Details.{Details}
use Rattle.atom_grammar.specs.declared.entry_parts.Back.{Back}

-- updated, published, edited
abbrev pub DatesValue : Type 0
DatesValue = ℤ × (Option ℤ × ℤ)

abbrev pub dates_value : Dates → DatesValue
dates_value d = (d.updated, (d.published, d.edited))

-- number, title, dates
abbrev pub FrontValue : Type 0
FrontValue = ℕ × (Text × DatesValue)

abbrev pub front_value : Front → FrontValue
front_value f = (f.number, (f.title, dates_value f.dates))

-- rights, summary, content
abbrev pub TextsValue : Type 0
TextsValue = Option Text × (Option Text × Option Text)

abbrev pub texts_value : Texts → TextsValue
texts_value t = (t.rights, (t.summary, t.content))

-- links, categories, texts
abbrev pub DetailsValue : Type 0
DetailsValue = List Link × (List Category × TextsValue)

abbrev pub details_value : Details → DetailsValue
details_value d = (d.links.items, (d.categories.items, texts_value d.texts))

-- contributors, number in the link for editing, details
abbrev pub BackValue : Type 0
BackValue = List Person × (ℕ × DetailsValue)

abbrev pub back_value : Back → BackValue
back_value b = (b.contributors.items, (b.edit, details_value b.details))

-- the parts before the authors, the authors, and the parts after them
abbrev pub EntryPartsValue : Type 0
EntryPartsValue = FrontValue × (List Person × BackValue)

-- the parts by name
abbrev pub dates_in : EntryPartsValue → DatesValue
dates_in p = p.0.1.1

abbrev pub edit_in : EntryPartsValue → ℕ
edit_in p = p.1.1.1.0

abbrev pub details_in : EntryPartsValue → DetailsValue
details_in p = p.1.1.1.1

abbrev pub links_in : EntryPartsValue → List Link
links_in p = p.1.1.1.1.0

abbrev pub texts_in : EntryPartsValue → TextsValue
texts_in p = p.1.1.1.1.1.1

abbrev pub content_in : EntryPartsValue → Option Text
content_in p = p.1.1.1.1.1.1.1.1

-- the entry of these parts
abbrev pub entry_of : EntryPartsValue → EntryValue
entry_of p = record {
  number = p.0.0;
  edited = (dates_in p).1.1;
  title = p.0.1.0;
  updated = (dates_in p).0;
  published = (dates_in p).1.0;
  authors = p.1.0;
  contributors = p.1.1.0;
  links = (details_in p).0;
  categories = (details_in p).1.0;
  rights = (texts_in p).0;
  summary = (texts_in p).1.0;
  content = (texts_in p).1.1;
}
