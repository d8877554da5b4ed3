-- The tree of elements that a text of tokens has (XML 1.0 section 2.1).
use Rattle.std.specs.Prelude.{◌≡◌, ℕ, ◌+◌, List, [], ◌∷◌, ◌++◌, length, IsTrue}
use Rattle.std.specs.Prelude.{if◌then◌else◌, unwrap_or, encode_utf8}
use Rattle.std.specs.Str.{is_utf8}
use Rattle.xml_tokens.specs.Characters.{begins}
use Rattle.xml_tokens.specs.Tokens.{Attribute, Tag, Token}
use Rattle.xml_tokens.specs.Tokens.Token.{character, referred, section, opening, closing}
use Rattle.xml_tokens.specs.Stages.{Scope, Stage, Lexeme, IsWhole, namespace_of, inner_scope, scope_in, stage_after}
use Rattle.xml_tokens.specs.Stages.Stage.{start, inside}

-- the name of an element, whose namespace is empty if it is in none
pub record Name : Type 0 where
  pub namespace : List ℕ
  pub local : List ℕ

-- an element without its content; `place` is the offset of the `<` of its tag
pub record Element : Type 0 where
  pub name : Name
  pub attributes : List Attribute
  pub place : ℕ

-- the content of an element, from its first character or element on
pub data Content : Type 0 where
  nothing : Content
  said : List ℕ → Content → Content
  element : Element → Content → Content → Content

-- an event that a token adds to the tree
pub data Event : Type 0 where
  begin : Element → Event
  finish : Event
  say : List ℕ → Event

-- the element of a tag at an offset, in this scope
abbrev pub element_of : Scope → Tag → ℕ → Element
element_of scope tag at = record {
  name = record {
    namespace = unwrap_or (namespace_of (inner_scope scope tag) tag.name.prefix) [];
    local = tag.name.local;
  };
  attributes = tag.attributes;
  place = at;
}

-- characters, which are part of the tree in content alone
abbrev pub said_in : Stage → List ℕ → List Event
said_in (inside innermost outer) read = say read ∷ []
said_in _ read = []

-- the events that a token at an offset adds at a stage
abbrev pub events_of : Stage → ℕ → Token → List Event
events_of stage at (character read) = said_in stage read
events_of stage at (referred c) = say (encode_utf8 c) ∷ []
events_of stage at (section read) = say read ∷ []
events_of stage at (opening tag) =
    begin (element_of (scope_in stage) tag at) ∷ (if tag.is_empty then finish ∷ [] else [])
events_of stage at (closing name) = finish ∷ []
events_of stage at _ = []

-- the events of lexemes, the first of which begins at an offset
abbrev pub events : Stage → ℕ → List Lexeme → List Event
events stage at [] = []
events stage at (l ∷ ls) =
    events_of stage at l.token ++ events (stage_after stage l.token) (at + length l.text) ls

-- characters before what follows them in the innermost open element
abbrev pub with_said : List ℕ → List Content → List Content
with_said read [] = []
with_said read (content ∷ outer) = said read content ∷ outer

-- an element before what follows its end in the element around it
abbrev pub with_element : Element → List Content → List Content
with_element e (content ∷ rest ∷ outer) = element e content rest ∷ outer
with_element e _ = []

-- the contents that the events leave to follow in each open element, the innermost first
abbrev pub contents : List Event → List Content
contents [] = nothing ∷ []
contents (begin e ∷ es) = with_element e (contents es)
contents (finish ∷ es) = nothing ∷ contents es
contents (say read ∷ es) = with_said read (contents es)

-- the mark that may stand before a text
abbrev pub mark : List ℕ
mark = 0xEF ∷ 0xBB ∷ 0xBF ∷ []

-- the mark that the bytes begin with, if they do
abbrev pub mark_of : List ℕ → List ℕ
mark_of bytes = if begins mark bytes then mark else []

-- the bytes are a document whose root is this element with this content, and whose elements have at most this depth
pub record IsDocument (most : ℕ) (bytes : List ℕ) (root : Element) (content : Content) : Type 0 where
  pub utf8 : IsTrue (is_utf8 bytes)
  pub text : List ℕ
  pub lexemes : List Lexeme
  pub marked : bytes ≡ mark_of bytes ++ text
  pub whole : IsWhole most text lexemes
  pub tree : contents (events start (length (mark_of bytes)) lexemes) ≡ element root content nothing ∷ []
