-- What is made of the rest of an element, or of the rest of a document.
use Rattle.std.specs.Prelude.{ℕ, List, ◌++◌, Result, Ok, Err}
use Rattle.xml_tokens.specs.declared.elements.Elements.{Elements}
use Rattle.xml_tokens.specs.declared.fault.TokenFault.{TokenFault}
use Rattle.xml_tokens.specs.Tree.{Content, Event}
use Rattle.xml_tokens.specs.Tree.Content.{nothing, said, element}
use Rattle.xml_tokens.specs.Progress.{AreInner, IsFaultFrom, IsLed, Point}

-- a content without the characters between its elements
abbrev pub elements_only : Content → Content
elements_only nothing = nothing
elements_only (said read rest) = elements_only rest
elements_only (element e inner rest) = element e inner (elements_only rest)

-- the rest of the innermost element is read, of which R says what is made of its content
abbrev pub IsRestRead : {A : Type 0} → (Content → A → Type 0) → ℕ → List Event → Point → Result A TokenFault →
    Elements → Type 0
IsRestRead R total first from (Ok value) new =
    (inner : Content) × (told : List Event) × IsLed total first from told new × AreInner inner told × R inner value
IsRestRead R total first from (Err fault) new = IsFaultFrom total from fault

-- the rest of the document is read, of which R says what is made of the content of the innermost element
abbrev pub IsDocumentFrom : {A : Type 0} → (Content → A → Type 0) → ℕ → List Event → Point → Result A TokenFault →
    Elements → Type 0
IsDocumentFrom R total first from (Ok value) new =
    (inner : Content) × (told : List Event) × (more : List Event) × IsLed total first from (told ++ more) new
    × AreInner inner told × R inner value
IsDocumentFrom R total first from (Err fault) new = IsFaultFrom total from fault
