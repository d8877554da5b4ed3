-- Links and their relations in contracts (RFC 4287 section 4.2.7).
use Rattle.std.specs.Prelude.{ℕ, Bool, not, List, IfSome, codes, filter}
use Rattle.std.specs.List.{list_any}
use Rattle.std.specs.Str.{bytes_eq}
use Rattle.atom_values.specs.declared.link.Link.{Link}
use Rattle.atom_values.specs.XmlText.{IsAtomText}

-- the rules that a link's types keep
pub record IsLink (link : Link) : Type 0 where
  pub href : IsAtomText link.href
  pub rel : IsAtomText link.rel
  pub media : IfSome link.media IsAtomText
  pub hreflang : IfSome link.hreflang IsAtomText
  pub title : IfSome link.title IsAtomText
  pub length : IfSome link.length IsAtomText

-- a relation is compared byte for byte
abbrev pub has_relation : List ℕ → Link → Bool
has_relation relation link = bytes_eq link.rel relation

-- one of the links has the relation `edit`, the address at which the entry is edited
abbrev pub has_edit : List Link → Bool
has_edit links = list_any (has_relation (codes "edit")) links

-- one of the links has the relation `alternate`, the address of another form of the entry
abbrev pub has_alternate : List Link → Bool
has_alternate links = list_any (has_relation (codes "alternate")) links

-- the links without those of relation `edit`
abbrev pub without_edit : List Link → List Link
without_edit links = filter (λ link. not (has_relation (codes "edit") link)) links
