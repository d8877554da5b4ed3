-- Persons in contracts (RFC 4287 section 3.2).
use Rattle.std.specs.Prelude.{IfSome}
use Rattle.atom_values.specs.declared.person.Person.{Person}
use Rattle.atom_values.specs.XmlText.{IsAtomText}

-- the rules that a person's types keep
pub record IsPerson (person : Person) : Type 0 where
  pub name : IsAtomText person.name
  pub uri : IfSome person.uri IsAtomText
  pub email : IfSome person.email IsAtomText
