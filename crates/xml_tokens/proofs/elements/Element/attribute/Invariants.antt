use Rattle.std.proofs.Common.{◌≡◌, List, None, take}
use Rattle.std.specs.List.{AllZip}
use Rattle.xml_tokens.specs.Tokens.{Attribute}
use Rattle.xml_tokens.specs.Children.{attribute_in}
use Rattle.xml_tokens.specs.Scopes.{IsLawfulOf}
use Rattle.xml_tokens.proofs.elements.Element.attribute.Given as goal

abbrev pub invariant-loop-attribute : goal.invariant-loop-attribute
invariant-loop-attribute l =
    (read : List Attribute) → AllZip IsLawfulOf read (take l.attribute-index l.self.attributes.items)
    → attribute_in l.name read ≡ None
