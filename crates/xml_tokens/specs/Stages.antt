-- Which tokens are allowed where: the scopes of prefixes, the open elements, and texts of tokens.
use Rattle.std.specs.Prelude.{◌≡◌, ℕ, ◌<◌, List, [], ◌∷◌, ◌++◌, length, filter_map, flat_map, IsTrue}
use Rattle.std.specs.Prelude.{if◌then◌else◌, ◌⊎◌, Option, Some, None, is_some, codes, bytes_eq}
use Rattle.xml_tokens.specs.Characters.{QName, AreSpaces}
use Rattle.xml_tokens.specs.Tokens.{Attribute, Tag, Token, IsSpelled, is_utf8_name}
use Rattle.xml_tokens.specs.Tokens.Token.{declaration, character, referred, section, comment, instruction, opening}
use Rattle.xml_tokens.specs.Tokens.Token.{closing}

-- a prefix and the name of its namespace; the empty prefix stands for the default namespace
pub record Binding : Type 0 where
  pub prefix : List ℕ
  pub namespace : List ℕ

-- the bindings in scope, the innermost first (Namespaces in XML, section 6.1)
abbrev pub Scope : Type 0
Scope = List Binding

-- outside the root there is no default namespace, and only `xml` is set (Namespaces in XML, section 3)
abbrev pub outer_scope : Scope
outer_scope =
    record { prefix = []; namespace = [] }
    ∷ record { prefix = codes "xml"; namespace = codes "http://www.w3.org/XML/1998/namespace" } ∷ []

-- the namespace of a prefix
abbrev pub namespace_of : Scope → List ℕ → Option (List ℕ)
namespace_of [] prefix = None
namespace_of (b ∷ bs) prefix = if bytes_eq b.prefix prefix then Some b.namespace else namespace_of bs prefix

-- the binding that an attribute declares: `xmlns` of the default namespace, `xmlns:p` of the prefix p
abbrev pub declared : Attribute → Option Binding
declared a =
    if bytes_eq a.name.prefix (codes "xmlns") then Some (record { prefix = a.name.local; namespace = a.value })
    else (if bytes_eq a.name.prefix [] then
    (if bytes_eq a.name.local (codes "xmlns") then Some (record { prefix = []; namespace = a.value }) else None)
    else None)

-- the scope in the element of a tag
abbrev pub inner_scope : Scope → Tag → Scope
inner_scope scope tag = filter_map declared tag.attributes ++ scope

-- an open element
pub record Open : Type 0 where
  pub name : QName
  pub scope : Scope

-- how far a text is read: nothing, the part before the root, the content of an open element in those around it from the
-- innermost on, or the root
pub data Stage : Type 0 where
  start : Stage
  prolog : Stage
  inside : Open → List Open → Stage
  epilog : Stage

abbrev pub open_in : Stage → List Open
open_in (inside element outer) = element ∷ outer
open_in _ = []

abbrev pub scope_in : Stage → Scope
scope_in (inside element outer) = element.scope
scope_in _ = outer_scope

abbrev pub IsInside : Stage → Type 0
IsInside (inside element outer) = Unit {0}
IsInside _ = ⊥

-- a root or an inner element may begin
abbrev pub MayBegin : Stage → Type 0
MayBegin epilog = ⊥
MayBegin _ = Unit {0}

-- the innermost open element has this name
abbrev pub IsInnermost : QName → Stage → Type 0
IsInnermost name (inside element outer) = name ≡ element.name
IsInnermost name _ = ⊥

-- the tag's element has at most the greatest depth, where the root has depth 1, and its prefix is set
pub record CanBegin (most : ℕ) (stage : Stage) (tag : Tag) : Type 0 where
  pub may : MayBegin stage
  pub depth : length (open_in stage) < most
  pub set : IsTrue (is_some (namespace_of (inner_scope (scope_in stage) tag) tag.name.prefix))

-- the token is allowed at this stage, where elements have at most this depth
abbrev pub CanStand : ℕ → Stage → Token → Type 0
CanStand most stage (declaration encoding) = (stage ≡ start) × IsTrue (is_utf8_name encoding)
CanStand most stage (character read) = IsInside stage ⊎ AreSpaces read
CanStand most stage (referred c) = IsInside stage
CanStand most stage (section read) = IsInside stage
CanStand most stage comment = Unit {0}
CanStand most stage instruction = Unit {0}
CanStand most stage (opening tag) = CanBegin most stage tag
CanStand most stage (closing name) = IsInnermost name stage

-- the stage in which these elements are open, the innermost first
abbrev pub content_stage : List Open → Stage
content_stage [] = epilog
content_stage (element ∷ outer) = inside element outer

-- the stage after the innermost open element
abbrev pub left : Stage → Stage
left (inside element outer) = content_stage outer
left _ = epilog

-- the stage after a token that says nothing of elements
abbrev pub begun : Stage → Stage
begun start = prolog
begun stage = stage

abbrev pub entered : Stage → Tag → Stage
entered stage tag = inside (record { name = tag.name; scope = inner_scope (scope_in stage) tag }) (open_in stage)

-- the stage after a token that stands at a stage
abbrev pub stage_after : Stage → Token → Stage
stage_after stage (opening tag) = if tag.is_empty then left (entered stage tag) else entered stage tag
stage_after stage (closing name) = left stage
stage_after stage _ = begun stage

-- a token with its spelling
pub record Lexeme : Type 0 where
  pub token : Token
  pub text : List ℕ

abbrev pub lexemes_text : List Lexeme → List ℕ
lexemes_text lexemes = flat_map (λ (l : Lexeme). l.text) lexemes

-- the stage after these lexemes
abbrev pub last_stage : Stage → List Lexeme → Stage
last_stage stage [] = stage
last_stage stage (l ∷ ls) = last_stage (stage_after stage l.token) ls

-- the lexemes are allowed one after another, from this stage on and before the text `rest`
abbrev pub CanAllStand : ℕ → Stage → List Lexeme → List ℕ → Type 0
CanAllStand most stage [] rest = Unit {0}
CanAllStand most stage (l ∷ ls) rest =
    IsSpelled l.token l.text (lexemes_text ls ++ rest) × CanStand most stage l.token
    × CanAllStand most (stage_after stage l.token) ls rest

-- the text is these lexemes, which end with the root, comments, instructions and white space
pub record IsWhole (most : ℕ) (text : List ℕ) (lexemes : List Lexeme) : Type 0 where
  pub spelled : text ≡ lexemes_text lexemes
  pub stand : CanAllStand most start lexemes []
  pub ended : last_stage start lexemes ≡ epilog
