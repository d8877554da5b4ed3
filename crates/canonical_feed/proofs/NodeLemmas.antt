-- Content as the canonical text writes it: a tree with its text, its lexemes and what they are read as.
use Rattle.std.proofs.Common.{◌≡◌, ℕ, ◌+◌, ◌<◌, true, false, List, [], ◌∷◌, ◌++◌, length, map, refl, sym, ap}
use Rattle.std.proofs.Common.{◌∙◌, inl, codes, arith, append_assoc, append-nil}
use Rattle.std.specs.Prelude.{if◌then◌else◌, bytes_eq, chars, is_some, IsTrue}
use Rattle.std.specs.List.{IsDistinct, list_all}
use Rattle.atom_values.specs.Escape.{escaped}
use Rattle.atom_values.specs.XmlText.{IsXmlText}
use Rattle.xml_tokens.specs.Characters.{QName, IsQName, name_text}
use Rattle.xml_tokens.specs.Tokens.{Attribute, Tag, IsAttribute, AreAttributes, IsTag, IsEndTag}
use Rattle.xml_tokens.specs.Tokens.Token.{opening, closing}
use Rattle.xml_tokens.specs.Stages.{Open, Scope, Lexeme, inner_scope, last_stage, lexemes_text, namespace_of}
use Rattle.xml_tokens.specs.Stages.Stage.{inside}
use Rattle.xml_tokens.specs.Tree.{Content, contents, element_of, events, with_element}
use Rattle.xml_tokens.specs.Tree.Content.{nothing, element}
use Rattle.xml_tokens.proofs.XmlLemmas.{printable, printable_xml, xml_append, xml_nil}
use Rattle.canonical_feed.proofs.CharacterLemmas.{AreXml, IsSafe, Stand, end_of, first_xml, lexemes_of, run_stands}
use Rattle.canonical_feed.proofs.CharacterLemmas.{run_text, run_tree, said_before, written, xml_characters}
use Rattle.canonical_feed.proofs.ValueLemmas.{value_read, value_xml}

-- an attribute with a space before it
abbrev pub attribute_text : Attribute → List ℕ
attribute_text a = codes " " ++ name_text a.name ++ codes "=\"" ++ escaped true a.value ++ codes "\""

abbrev pub attributes_text : List Attribute → List ℕ
attributes_text [] = []
attributes_text (a ∷ more) = attribute_text a ++ attributes_text more

abbrev pub tag_text : Tag → List ℕ
tag_text tag =
    codes "<" ++ name_text tag.name ++ attributes_text tag.attributes ++ (if tag.is_empty then codes "/>" else codes ">")

abbrev pub close_text : QName → List ℕ
close_text name = codes "</" ++ name_text name ++ codes ">"

-- an attribute with a name of ASCII and a value of XML characters
pub record IsGoodAttribute (a : Attribute) : Type 0 where
  pub name : IsQName a.name
  pub ascii : list_all printable (name_text a.name) ≡ true
  pub value : IsXmlText a.value

abbrev pub AreGoodAttributes : List Attribute → Type 0
AreGoodAttributes [] = Unit {0}
AreGoodAttributes (a ∷ more) = IsGoodAttribute a × AreGoodAttributes more

-- a tag with a name of ASCII and good attributes, no two of which have the same name
pub record IsGoodTag (tag : Tag) : Type 0 where
  pub name : IsQName tag.name
  pub ascii : list_all printable (name_text tag.name) ≡ true
  pub attributes : AreGoodAttributes tag.attributes
  pub distinct : IsDistinct bytes_eq (map (λ (a : Attribute). name_text a.name) tag.attributes)

setting_text : (name value : List ℕ) →
    codes " " ++ name ++ codes "=\"" ++ value ++ codes "\""
    ≡ codes " " ++ name ++ [] ++ codes "=" ++ [] ++ 34 ∷ value ++ 34 ∷ []
setting_text name value = simp append_assoc

attribute_is : (a : Attribute) → IsGoodAttribute a → IsAttribute a (attribute_text a)
attribute_is a good = record {
  name = good.name;
  q = 34;
  inside = escaped true a.value;
  value = value_read a.value;
  setting = record {
    gap = codes " ";
    before = [];
    behind = [];
    is_gap = (refl, λ (e : codes " " ≡ []). cc);
    is_before = refl;
    is_behind = refl;
    is_quote = inl refl;
    spelled = setting_text (name_text a.name) (escaped true a.value);
  };
}

attributes_are : (as_are : List Attribute) → AreGoodAttributes as_are → AreAttributes as_are (attributes_text as_are)
attributes_are [] good = refl
attributes_are (a ∷ more) good =
    (attribute_text a, attributes_text more, attribute_is a good.0, attributes_are more good.1, refl)

tag_spelled : (name middle last : List ℕ) →
    codes "<" ++ name ++ middle ++ last ≡ codes "<" ++ name ++ middle ++ [] ++ last
tag_spelled name middle last = ap (λ xs. xs ++ last) (sym (append-nil (codes "<" ++ name ++ middle)))

pub tag_is : (tag : Tag) → IsGoodTag tag → IsTag tag (tag_text tag)
tag_is tag good = record {
  name = good.name;
  inside = attributes_text tag.attributes;
  spaces = [];
  attributes = attributes_are tag.attributes good.attributes;
  distinct = good.distinct;
  are_spaces = refl;
  spelled = tag_spelled (name_text tag.name) (attributes_text tag.attributes)
      (if tag.is_empty then codes "/>" else codes ">");
}

attribute_xml : (a : Attribute) → IsGoodAttribute a → IsXmlText (attribute_text a)
attribute_xml a good =
    xml_append (codes " " ++ name_text a.name ++ codes "=\"" ++ escaped true a.value) (codes "\"")
    (xml_append (codes " " ++ name_text a.name ++ codes "=\"") (escaped true a.value)
    (xml_append (codes " " ++ name_text a.name) (codes "=\"")
    (xml_append (codes " ") (name_text a.name) (printable_xml (codes " ") refl)
    (printable_xml (name_text a.name) good.ascii))
    (printable_xml (codes "=\"") refl))
    (value_xml a.value good.value))
    (printable_xml (codes "\"") refl)

attributes_xml : (as_are : List Attribute) → AreGoodAttributes as_are → IsXmlText (attributes_text as_are)
attributes_xml [] good = xml_nil
attributes_xml (a ∷ more) good =
    xml_append (attribute_text a) (attributes_text more) (attribute_xml a good.0) (attributes_xml more good.1)

tag_end_xml : (tag : Tag) → IsXmlText (if tag.is_empty then codes "/>" else codes ">")
tag_end_xml tag = elim (tag.is_empty) as (λ b. IsXmlText (if b then codes "/>" else codes ">"))
    [ true ↦ printable_xml (codes "/>") refl | false ↦ printable_xml (codes ">") refl ]

pub tag_xml : (tag : Tag) → IsGoodTag tag → IsXmlText (tag_text tag)
tag_xml tag good =
    xml_append (codes "<" ++ name_text tag.name ++ attributes_text tag.attributes)
    (if tag.is_empty then codes "/>" else codes ">")
    (xml_append (codes "<" ++ name_text tag.name) (attributes_text tag.attributes)
    (xml_append (codes "<") (name_text tag.name) (printable_xml (codes "<") refl)
    (printable_xml (name_text tag.name) good.ascii))
    (attributes_xml tag.attributes good.attributes))
    (tag_end_xml tag)

pub close_is : (name : QName) → IsQName name → IsEndTag name (close_text name)
close_is name is = record {
  is_name = is;
  spaces = [];
  are_spaces = refl;
  spelled = ap (λ xs. xs ++ codes ">") (sym (append-nil (codes "</" ++ name_text name)));
}

pub close_xml : (name : QName) → list_all printable (name_text name) ≡ true → IsXmlText (close_text name)
close_xml name ascii =
    xml_append (codes "</" ++ name_text name) (codes ">")
    (xml_append (codes "</") (name_text name) (printable_xml (codes "</") refl) (printable_xml (name_text name) ascii))
    (printable_xml (codes ">") refl)

abbrev pub open_lexeme : Tag → Lexeme
open_lexeme tag = record { token = opening tag; text = tag_text tag }

abbrev pub close_lexeme : QName → Lexeme
close_lexeme name = record { token = closing name; text = close_text name }

-- the tag before an element's content, and that of an empty element
abbrev pub begin_tag : QName → List Attribute → Tag
begin_tag name attributes = record { name = name; attributes = attributes; is_empty = false }

abbrev pub empty_tag : QName → List Attribute → Tag
empty_tag name attributes = record { name = name; attributes = attributes; is_empty = true }

-- a content: characters, empty elements and elements with content, each before the rest
pub data Node : Type 0 where
  done : Node
  words : List ℕ → Node → Node
  empty : QName → List Attribute → Node → Node
  full : QName → List Attribute → Node → Node → Node

abbrev pub node_text : Node → List ℕ
node_text done = []
node_text (words t n) = escaped false t ++ node_text n
node_text (empty name attributes n) = tag_text (empty_tag name attributes) ++ node_text n
node_text (full name attributes inner n) =
    tag_text (begin_tag name attributes) ++ node_text inner ++ close_text name ++ node_text n

-- its lexemes, before others
abbrev pub lex : Node → List Lexeme → List Lexeme
lex done more = more
lex (words t n) more = lexemes_of (chars t) (lex n more)
lex (empty name attributes n) more = open_lexeme (empty_tag name attributes) ∷ lex n more
lex (full name attributes inner n) more =
    open_lexeme (begin_tag name attributes) ∷ lex inner (close_lexeme name ∷ lex n more)

-- the offset after it, if it begins at an offset
abbrev pub after : ℕ → Node → ℕ
after at done = at
after at (words t n) = after (end_of at (chars t)) n
after at (empty name attributes n) = after (at + length (tag_text (empty_tag name attributes))) n
after at (full name attributes inner n) =
    after (after (at + length (tag_text (begin_tag name attributes))) inner + length (close_text name)) n

-- what it is read as in a scope, before other content
abbrev pub tree : Scope → ℕ → Node → Content → Content
tree scope at done tail = tail
tree scope at (words t n) tail = said_before (chars t) (tree scope (end_of at (chars t)) n tail)
tree scope at (empty name attributes n) tail =
    element (element_of scope (empty_tag name attributes) at) nothing
    (tree scope (at + length (tag_text (empty_tag name attributes))) n tail)
tree scope at (full name attributes inner n) tail =
    element (element_of scope (begin_tag name attributes) at)
    (tree (inner_scope scope (begin_tag name attributes)) (at + length (tag_text (begin_tag name attributes))) inner
    nothing)
    (tree scope
    (after (at + length (tag_text (begin_tag name attributes))) inner + length (close_text name)) n tail)

-- a tag may stand in this scope inside `depth` elements
pub record IsAllowed (scope : Scope) (depth : ℕ) (tag : Tag) : Type 0 where
  pub good : IsGoodTag tag
  pub set : IsTrue (is_some (namespace_of (inner_scope scope tag) tag.name.prefix))
  pub deep : depth < 256

-- a content may stand in this scope inside `depth` elements
abbrev pub IsGood : Scope → ℕ → Node → Type 0
IsGood scope depth done = Unit {0}
IsGood scope depth (words t n) = IsXmlText t × IsGood scope depth n
IsGood scope depth (empty name attributes n) =
    IsAllowed scope depth (empty_tag name attributes) × IsGood scope depth n
IsGood scope depth (full name attributes inner n) =
    IsAllowed scope depth (begin_tag name attributes)
    × IsGood (inner_scope scope (begin_tag name attributes)) (depth + 1) inner × IsGood scope depth n

words_text : (t : List ℕ) (more : List Lexeme) → IsXmlText t →
    lexemes_text (lexemes_of (chars t) more) ≡ escaped false t ++ lexemes_text more
words_text t more is =
    let x = xml_characters t is in
    run_text (chars t) more x.0 ∙ ap (λ xs. escaped false xs ++ lexemes_text more) x.1

five : (a b c d e : List ℕ) → a ++ (b ++ (c ++ (d ++ e))) ≡ (a ++ b ++ c ++ d) ++ e
five a b c d e = simp append_assoc

pub text_is : (scope : Scope) (depth : ℕ) (n : Node) (more : List Lexeme) → IsGood scope depth n →
    lexemes_text (lex n more) ≡ node_text n ++ lexemes_text more
text_is scope depth done more good = refl
text_is scope depth (words t n) more good =
    words_text t (lex n more) good.0 ∙ ap (λ xs. escaped false t ++ xs) (text_is scope depth n more good.1)
    ∙ sym (append_assoc (escaped false t) (node_text n) (lexemes_text more))
text_is scope depth (empty name attributes n) more good =
    let tag = tag_text (empty_tag name attributes) in
    ap (λ xs. tag ++ xs) (text_is scope depth n more good.1)
    ∙ sym (append_assoc tag (node_text n) (lexemes_text more))
text_is scope depth (full name attributes inner n) more good =
    let tag = tag_text (begin_tag name attributes) in
    let behind = close_lexeme name ∷ lex n more in
    ap (λ xs. tag ++ xs)
    (text_is (inner_scope scope (begin_tag name attributes)) (depth + 1) inner behind good.1
    ∙ ap (λ xs. node_text inner ++ (close_text name ++ xs)) (text_is scope depth n more good.2))
    ∙ five tag (node_text inner) (close_text name) (node_text n) (lexemes_text more)

pub safe_tag : (u : List ℕ) → IsSafe (60 ∷ u)
safe_tag u = record { no_close = refl; no_end = refl }

pub stands : (e : Open) (outer : List Open) (depth : ℕ) (n : Node) (more : List Lexeme) (rest : List ℕ) →
    length (e ∷ outer) ≡ depth → IsGood e.scope depth n → Stand 256 e outer more rest →
    Stand 256 e outer (lex n more) rest
stands e outer depth done more rest count good s = s
stands e outer depth (words t n) more rest count good s =
    run_stands 256 e outer (chars t) (lex n more) rest (xml_characters t good.0).0
    (stands e outer depth n more rest count good.1 s)
stands e outer depth (empty name attributes n) more rest count good s =
    let r = stands e outer depth n more rest count good.1 s in
    let tag = empty_tag name attributes in
    record {
      stand = (
        (tag_xml tag good.0.good, tag_is tag good.0.good),
        record { may = tt; depth = (let deep = good.0.deep in omega arith); set = good.0.set },
        r.stand,
      );
      safe = safe_tag (name_text name ++ attributes_text attributes ++ codes "/>" ++ lexemes_text (lex n more) ++ rest);
    }
stands e outer depth (full name attributes inner n) more rest count good s =
    let tag = begin_tag name attributes in
    let new : Open = record { name = name; scope = inner_scope e.scope tag } in
    let r = stands e outer depth n more rest count good.2 s in
    let closed : Stand 256 new (e ∷ outer) (close_lexeme name ∷ lex n more) rest = record {
      stand = (
        (close_xml name good.0.good.ascii, close_is name good.0.good.name),
        refl,
        r.stand,
      );
      safe = safe_tag (codes "/" ++ name_text name ++ codes ">" ++ lexemes_text (lex n more) ++ rest);
    } in
    let i = stands new (e ∷ outer) (depth + 1) inner (close_lexeme name ∷ lex n more) rest (omega arith) good.1 closed in
    record {
      stand = (
        (tag_xml tag good.0.good, tag_is tag good.0.good),
        record { may = tt; depth = (let deep = good.0.deep in omega arith); set = good.0.set },
        i.stand,
      );
      safe = safe_tag
          (name_text name ++ attributes_text attributes ++ codes ">"
          ++ lexemes_text (lex inner (close_lexeme name ∷ lex n more)) ++ rest);
    }

run_stage : (e : Open) (outer : List Open) (cs : List ℕ) (more : List Lexeme) → AreXml cs →
    last_stage (inside e outer) (lexemes_of cs more) ≡ last_stage (inside e outer) more
run_stage e outer [] more are = refl
run_stage e outer (c ∷ cs) more are =
    let f = first_xml c cs are in
    ap (λ k. last_stage k (lexemes_of cs more)) ((written c f.0 f.1).stays e outer)
    ∙ run_stage e outer cs more f.2

-- the element around it is open after it too
pub stays : (e : Open) (outer : List Open) (depth : ℕ) (n : Node) (more : List Lexeme) → IsGood e.scope depth n →
    last_stage (inside e outer) (lex n more) ≡ last_stage (inside e outer) more
stays e outer depth done more good = refl
stays e outer depth (words t n) more good =
    run_stage e outer (chars t) (lex n more) (xml_characters t good.0).0 ∙ stays e outer depth n more good.1
stays e outer depth (empty name attributes n) more good = stays e outer depth n more good.1
stays e outer depth (full name attributes inner n) more good =
    stays (record { name = name; scope = inner_scope e.scope (begin_tag name attributes) }) (e ∷ outer) (depth + 1)
    inner (close_lexeme name ∷ lex n more) good.1
    ∙ stays e outer depth n more good.2

pub tree_is : (e : Open) (outer : List Open) (depth at : ℕ) (n : Node) (more : List Lexeme) (tail : Content)
    (up : List Content) → IsGood e.scope depth n → contents (events (inside e outer) (after at n) more) ≡ tail ∷ up →
    contents (events (inside e outer) at (lex n more)) ≡ tree e.scope at n tail ∷ up
tree_is e outer depth at done more tail up good is = is
tree_is e outer depth at (words t n) more tail up good is =
    run_tree e outer at (chars t) (lex n more) (tree e.scope (end_of at (chars t)) n tail) up (xml_characters t good.0).0
    (tree_is e outer depth (end_of at (chars t)) n more tail up good.1 is)
tree_is e outer depth at (empty name attributes n) more tail up good is =
    let tag = empty_tag name attributes in
    ap (λ xs. with_element (element_of e.scope tag at) (nothing ∷ xs))
    (tree_is e outer depth (at + length (tag_text tag)) n more tail up good.1 is)
tree_is e outer depth at (full name attributes inner n) more tail up good is =
    let tag = begin_tag name attributes in
    let new : Open = record { name = name; scope = inner_scope e.scope tag } in
    let next = at + length (tag_text tag) in
    let behind = after next inner + length (close_text name) in
    ap (λ xs. with_element (element_of e.scope tag at) xs)
    (tree_is new (e ∷ outer) (depth + 1) next inner (close_lexeme name ∷ lex n more) nothing
    (tree e.scope behind n tail ∷ up) good.1
    (ap (λ xs. nothing ∷ xs) (tree_is e outer depth behind n more tail up good.2 is)))
