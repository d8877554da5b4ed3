-- Categories in contracts (RFC 4287 section 4.2.2).
use Rattle.std.specs.Prelude.{IfSome}
use Rattle.atom_values.specs.declared.category.Category.{Category}
use Rattle.atom_values.specs.XmlText.{IsAtomText}

-- the rules that a category's types keep
pub record IsCategory (category : Category) : Type 0 where
  pub term : IsAtomText category.term
  pub scheme : IfSome category.scheme IsAtomText
  pub label : IfSome category.label IsAtomText
