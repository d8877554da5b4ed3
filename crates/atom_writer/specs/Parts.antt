-- The text of the persons, links and categories of an entry (RFC 4287 sections 3.2, 4.2.7 and 4.2.2).
use Rattle.std.specs.Prelude.{ℕ, List, [], ◌++◌, flat_map, true, false, if◌then◌else◌, Option, Some, None, codes}
use Rattle.atom_values.specs.declared.category.Category.{Category}
use Rattle.atom_values.specs.declared.link.Link.{Link}
use Rattle.atom_values.specs.declared.person.Person.{Person}
use Rattle.atom_values.specs.Escape.{escaped}
use Rattle.atom_values.specs.Link.{has_relation}

-- an element that has this text
unfoldable pub element : List ℕ → List ℕ → List ℕ
element tag value = codes "<" ++ tag ++ codes ">" ++ escaped false value ++ codes "</" ++ tag ++ codes ">"

unfoldable pub optional_element : List ℕ → Option (List ℕ) → List ℕ
optional_element tag None = []
optional_element tag (Some value) = element tag value

unfoldable pub person_text : List ℕ → Person → List ℕ
person_text tag p =
    codes "<" ++ tag ++ codes ">" ++ element (codes "name") p.name ++ optional_element (codes "uri") p.uri
    ++ optional_element (codes "email") p.email ++ codes "</" ++ tag ++ codes ">"

abbrev pub persons_text : List ℕ → List Person → List ℕ
persons_text tag persons = flat_map (person_text tag) persons

-- an attribute, with a space before it
unfoldable pub attribute : List ℕ → List ℕ → List ℕ
attribute name value = codes " " ++ name ++ codes "=\"" ++ escaped true value ++ codes "\""

unfoldable pub optional_attribute : List ℕ → Option (List ℕ) → List ℕ
optional_attribute name None = []
optional_attribute name (Some value) = attribute name value

-- the relation of a link, which is left out if it is `alternate`
unfoldable pub relation_text : Link → List ℕ
relation_text l = if has_relation (codes "alternate") l then [] else attribute (codes "rel") l.rel

unfoldable pub link_text : Link → List ℕ
link_text l =
    codes "<link" ++ relation_text l ++ attribute (codes "href") l.href ++ optional_attribute (codes "type") l.media
    ++ optional_attribute (codes "hreflang") l.hreflang ++ optional_attribute (codes "title") l.title
    ++ optional_attribute (codes "length") l.length ++ codes "/>"

unfoldable pub category_text : Category → List ℕ
category_text c =
    codes "<category" ++ attribute (codes "term") c.term ++ optional_attribute (codes "scheme") c.scheme
    ++ optional_attribute (codes "label") c.label ++ codes "/>"
