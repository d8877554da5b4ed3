-- How the elements of an entry document are read (RFC 4287, RFC 5023).
use Rattle.std.specs.Prelude.{◌≡◌, [], map, if◌then◌else◌, ℤ, Option, Some, None, option_map, unwrap_or, codes}
use Rattle.std.specs.Prelude.{bytes_eq}
use Rattle.atom_values.specs.declared.category.Category.{Category}
use Rattle.atom_values.specs.declared.link.Link.{Link}
use Rattle.atom_values.specs.declared.person.Person.{Person}
use Rattle.atom_values.specs.declared.text.Text.{Text}
use Rattle.atom_values.specs.declared.text.TextKind.TheVariants.{Plain, Html}
use Rattle.atom_values.specs.DateText.{States}
use Rattle.atom_values.specs.Entry.{DraftValue}
use Rattle.atom_values.specs.Space.{trimmed}
use Rattle.xml_tokens.specs.Children.{Child, attribute, child, child_text, named}
use Rattle.xml_tokens.specs.Names.{atom}
use Rattle.xml_tokens.specs.Tree.{Content}

-- a text construct (RFC 4287 section 3.1)
abbrev pub construct : Child → Text
construct c = record {
  kind = if bytes_eq (unwrap_or (attribute (codes "type") c) (codes "text")) (codes "html") then Html else Plain;
  value = child_text c;
}

-- a person (RFC 4287 section 3.2); one without a name is refused
abbrev pub person : Child → Person
person c = record {
  name = unwrap_or (option_map child_text (child (codes "name") c.content)) [];
  uri = option_map child_text (child (codes "uri") c.content);
  email = option_map child_text (child (codes "email") c.content);
}

-- a link (RFC 4287 section 4.2.7); one without `href` is refused
abbrev pub link : Child → Link
link c = record {
  href = unwrap_or (attribute (codes "href") c) [];
  rel = unwrap_or (attribute (codes "rel") c) (codes "alternate");
  media = attribute (codes "type") c;
  hreflang = attribute (codes "hreflang") c;
  title = attribute (codes "title") c;
  length = attribute (codes "length") c;
}

-- a category (RFC 4287 section 4.2.2); one without `term` is refused
abbrev pub category : Child → Category
category c = record {
  term = unwrap_or (attribute (codes "term") c) [];
  scheme = attribute (codes "scheme") c;
  label = attribute (codes "label") c;
}

-- the timestamp that the date of an element states (RFC 4287 section 3.3)
abbrev pub IsMoment : Option Child → Option ℤ → Type 0
IsMoment None moment = moment ≡ None
IsMoment (Some c) moment = (z : ℤ) × (moment ≡ Some z) × States (trimmed (child_text c)) z

-- the content of an entry is read as this draft, if none of its elements is refused
pub record IsReadAs (inner : Content) (draft : DraftValue) : Type 0 where
  pub id : draft.id ≡ option_map (λ c. trimmed (child_text c)) (child (codes "id") inner)
  pub title : option_map construct (child (codes "title") inner) ≡ Some draft.title
  pub updated : IsMoment (child (codes "updated") inner) draft.updated
  pub published : IsMoment (child (codes "published") inner) draft.published
  pub authors : draft.authors ≡ map person (named (atom (codes "author")) inner)
  pub contributors : draft.contributors ≡ map person (named (atom (codes "contributor")) inner)
  pub links : draft.links ≡ map link (named (atom (codes "link")) inner)
  pub categories : draft.categories ≡ map category (named (atom (codes "category")) inner)
  pub rights : draft.rights ≡ option_map construct (child (codes "rights") inner)
  pub summary : draft.summary ≡ option_map construct (child (codes "summary") inner)
  pub content : draft.content ≡ option_map construct (child (codes "content") inner)
