-- The fields of an entry in the steps in which they are read. Contracts see each step as nested pairs.
use Rattle.std.specs.Prelude.{◌≡◌, ℕ, ℤ, List, Option, ◌||◌, false, IsTrue, is_some}
use Rattle.atom_values.specs.declared.category.Category.{Category}
use Rattle.atom_values.specs.declared.link.Link.{Link}
use Rattle.atom_values.specs.declared.person.Person.{Person}
use Rattle.atom_values.specs.declared.text.Text.{Text}
use Rattle.atom_values.specs.Entry.{EntryValue, IsEntry, person_limit, link_limit, category_limit}
use Rattle.atom_values.specs.Link.{has_alternate, has_edit}
use Rattle.atom_writer.specs.Pieced.{Pieced}
use Rattle.member_rules.specs.Coding.{entry_fields}
use Rattle.member_rules.specs.FieldLists.{one, both}
use Rattle.member_rules.specs.Fields.{Field, counted, stamp, construct, optional, listed, person, link, category}
use Rattle.member_rules.specs.declared.codec.entry_fields.Dates.{Dates}
use Rattle.member_rules.specs.declared.codec.entry_fields.Front.{Front}
use Rattle.member_rules.specs.declared.codec.entry_fields.Persons.{Persons}
use Rattle.member_rules.specs.declared.codec.entry_fields.Lists.{Lists}
use Rattle.member_rules.specs.declared.codec.entry_fields.Texts.{Texts}

-- links, none of which has the relation `edit`
unfoldable pub linked : Field (List Link)
linked = record {
  Is = λ links. (listed link_limit link).Is links × (has_edit links ≡ false);
  bytes = (listed link_limit link).bytes;
}

-- content, which may be missing if one of the links has the relation `alternate`
unfoldable pub contents : List Link → Field (Option Text)
contents links = record {
  Is = λ content. (optional construct).Is content × IsTrue (is_some content || has_alternate links);
  bytes = (optional construct).bytes;
}

-- number, edited, updated
abbrev pub DatesValue : Type 0
DatesValue = ℕ × (ℤ × ℤ)

abbrev pub dates_value : Dates → DatesValue
dates_value d = (d.number, (d.edited, d.updated))

abbrev pub dates : Pieced DatesValue
dates = both (one counted) (λ _. both (one stamp) (λ _. one stamp))

-- dates, title, published
abbrev pub FrontValue : Type 0
FrontValue = DatesValue × (Text × Option ℤ)

abbrev pub front_value : Front → FrontValue
front_value f = (dates_value f.dates, (f.title, f.published))

abbrev pub front : Pieced FrontValue
front = both dates (λ _. both (one construct) (λ _. one (optional stamp)))

-- authors, contributors
abbrev pub PersonsValue : Type 0
PersonsValue = List Person × List Person

abbrev pub persons_value : Persons → PersonsValue
persons_value p = (p.authors.items, p.contributors.items)

abbrev pub persons : Pieced PersonsValue
persons = both (one (listed person_limit person)) (λ _. one (listed person_limit person))

-- persons, links, categories
abbrev pub ListsValue : Type 0
ListsValue = PersonsValue × (List Link × List Category)

abbrev pub lists_value : Lists → ListsValue
lists_value l = (persons_value l.persons, (l.links.items, l.categories.items))

abbrev pub lists : Pieced ListsValue
lists = both persons (λ _. both (one linked) (λ _. one (listed category_limit category)))

-- rights, summary, content
abbrev pub TextsValue : Type 0
TextsValue = Option Text × (Option Text × Option Text)

abbrev pub texts_value : Texts → TextsValue
texts_value t = (t.rights, (t.summary, t.content))

abbrev pub texts : List Link → Pieced TextsValue
texts links = both (one (optional construct)) (λ _. both (one (optional construct)) (λ _. one (contents links)))

-- the fields before the lists, the lists, and the fields after them
abbrev pub PartsValue : Type 0
PartsValue = FrontValue × (ListsValue × TextsValue)

abbrev pub parts : Pieced PartsValue
parts = both front (λ _. both lists (λ l. texts l.1.0))

-- the entry of these fields
abbrev pub entry_of : PartsValue → EntryValue
entry_of p = record {
  number = p.0.0.0;
  edited = p.0.0.1.0;
  title = p.0.1.0;
  updated = p.0.0.1.1;
  published = p.0.1.1;
  authors = p.1.0.0.0;
  contributors = p.1.0.0.1;
  links = p.1.0.1.0;
  categories = p.1.0.1.1;
  rights = p.1.1.0;
  summary = p.1.1.1.0;
  content = p.1.1.1.1;
}

-- entries, and the fields of each
unfoldable pub entries : Pieced EntryValue
entries = record { Is = IsEntry; pieces = entry_fields }
