use Rattle.std.proofs.Common.{List, ◌∷◌, length}
use Rattle.xml_tokens.specs.Stages.{Open}
use Rattle.xml_tokens.specs.Scopes.{AreScopesOf, IsWithin}
use Rattle.xml_tokens.proofs.scopes.Scopes.leave.Given as goal

abbrev pub invariant-loop-declaration : goal.invariant-loop-declaration
invariant-loop-declaration l =
    (element : Open) (opened : List Open) → AreScopesOf (element ∷ opened) l.fn.self → IsWithin opened l.self

abbrev pub decreases-loop-declaration : goal.decreases-loop-declaration
decreases-loop-declaration l = length l.self.declared.items
