-- The elements and the characters in the content of an element.
use Rattle.std.specs.Prelude.{ℕ, List, [], ◌∷◌, ◌++◌, Bool, ◌&&◌, if◌then◌else◌, Option, Some, None, bytes_eq}
use Rattle.xml_tokens.specs.Names.{atom}
use Rattle.xml_tokens.specs.Tokens.{Attribute}
use Rattle.xml_tokens.specs.Tree.{Name, Element, Content}
use Rattle.xml_tokens.specs.Tree.Content.{nothing, said, element}

abbrev pub same_name : Name → Name → Bool
same_name a b = bytes_eq a.namespace b.namespace && bytes_eq a.local b.local

-- the value of the first attribute with this name and no prefix
abbrev pub attribute_in : List ℕ → List Attribute → Option (List ℕ)
attribute_in name [] = None
attribute_in name (a ∷ more) =
    if bytes_eq a.name.prefix [] && bytes_eq a.name.local name then Some a.value else attribute_in name more

-- an element with its content
pub record Child : Type 0 where
  pub element : Element
  pub content : Content

abbrev pub attribute : List ℕ → Child → Option (List ℕ)
attribute name child = attribute_in name child.element.attributes

-- the elements of a content, without those inside them
abbrev pub children : Content → List Child
children nothing = []
children (said read rest) = children rest
children (element e content rest) = record { element = e; content = content } ∷ children rest

-- the characters of a content, without those of elements inside it
abbrev pub text_of : Content → List ℕ
text_of nothing = []
text_of (said read rest) = read ++ text_of rest
text_of (element e content rest) = text_of rest

-- all characters of a content, those of elements inside it too
abbrev pub whole_text_of : Content → List ℕ
whole_text_of nothing = []
whole_text_of (said read rest) = read ++ whole_text_of rest
whole_text_of (element e content rest) = whole_text_of content ++ whole_text_of rest

-- those with this name
abbrev pub named_in : Name → List Child → List Child
named_in name [] = []
named_in name (c ∷ cs) = if same_name c.element.name name then c ∷ named_in name cs else named_in name cs

abbrev pub named : Name → Content → List Child
named name content = named_in name (children content)

abbrev pub first_of : {A : Type 0} → List A → Option A
first_of [] = None
first_of (x ∷ xs) = Some x

-- the first child with this name of Atom
abbrev pub child : List ℕ → Content → Option Child
child name content = first_of (named (atom name) content)

abbrev pub child_text : Child → List ℕ
child_text c = text_of c.content

-- a content, and what follows it
abbrev pub joined : Content → Content → Content
joined nothing c = c
joined (said read b) c = said read (joined b c)
joined (element e inner b) c = element e inner (joined b c)

-- a content, and an element after it
abbrev pub with_child : Content → Element → Content → Content
with_child b e inner = joined b (element e inner nothing)
