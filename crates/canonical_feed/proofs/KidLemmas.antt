-- The elements of a content as they are read.
use Rattle.std.proofs.Common.{◌≡◌, ℕ, ◌+◌, true, false, List, [], ◌∷◌, ◌++◌, length, Option, Some, refl, ap, ◌∙◌}
use Rattle.std.specs.Prelude.{chars, filter_map, unwrap_or}
use Rattle.std.proofs.Math.Utf8.{encode, encodes}
use Rattle.std.proofs.lemmas.Bool.{cond-true, cond-false}
use Rattle.atom_values.specs.XmlText.{IsXmlText}
use Rattle.xml_tokens.specs.Characters.{QName}
use Rattle.xml_tokens.specs.Tokens.{Attribute, Tag}
use Rattle.xml_tokens.specs.Stages.{Scope, declared, inner_scope, namespace_of}
use Rattle.xml_tokens.specs.Tree.{Content, Name, element_of}
use Rattle.xml_tokens.specs.Tree.Content.{nothing}
use Rattle.xml_tokens.specs.Children.{Child, child, children, first_of, named_in, same_name, whole_text_of}
use Rattle.xml_tokens.specs.Names.{atom}
use Rattle.atom_values.specs.Space.{trimmed}
use Rattle.canonical_feed.proofs.CharacterLemmas.{end_of, said_before, xml_characters}
use Rattle.canonical_feed.proofs.CleanLemmas.{IsClean, clean_trimmed, clean_xml}
use Rattle.canonical_feed.proofs.DocumentLemmas.{feed_scope}
use Rattle.canonical_feed.proofs.NodeLemmas.{Node, after, begin_tag, close_text, empty_tag, tag_text, tree}
use Rattle.canonical_feed.proofs.NodeLemmas.Node.{done, words, empty, full}

-- an element with content that begins at an offset
abbrev pub kid_of : Scope → QName → List Attribute → Node → ℕ → Child
kid_of scope name attributes inner at = record {
  element = element_of scope (begin_tag name attributes) at;
  content = tree (inner_scope scope (begin_tag name attributes)) (at + length (tag_text (begin_tag name attributes))) inner
      nothing;
}

abbrev pub empty_kid : Scope → QName → List Attribute → ℕ → Child
empty_kid scope name attributes at = record {
  element = element_of scope (empty_tag name attributes) at;
  content = nothing;
}

-- the elements of a content
abbrev pub kids : Scope → ℕ → Node → List Child
kids scope at done = []
kids scope at (words t n) = kids scope (end_of at (chars t)) n
kids scope at (empty name attributes n) =
    empty_kid scope name attributes at ∷ kids scope (at + length (tag_text (empty_tag name attributes))) n
kids scope at (full name attributes inner n) =
    kid_of scope name attributes inner at
    ∷ kids scope (after (at + length (tag_text (begin_tag name attributes))) inner + length (close_text name)) n

said_children : (cs : List ℕ) (c : Content) → children (said_before cs c) ≡ children c
said_children [] c = refl
said_children (k ∷ cs) c = said_children cs c

pub kids_are : (scope : Scope) (at : ℕ) (n : Node) → children (tree scope at n nothing) ≡ kids scope at n
kids_are scope at done = refl
kids_are scope at (words t n) =
    said_children (chars t) (tree scope (end_of at (chars t)) n nothing) ∙ kids_are scope (end_of at (chars t)) n
kids_are scope at (empty name attributes n) =
    ap (λ cs. empty_kid scope name attributes at ∷ cs)
    (kids_are scope (at + length (tag_text (empty_tag name attributes))) n)
kids_are scope at (full name attributes inner n) =
    ap (λ cs. kid_of scope name attributes inner at ∷ cs)
    (kids_are scope (after (at + length (tag_text (begin_tag name attributes))) inner + length (close_text name)) n)

said_whole : (cs : List ℕ) → whole_text_of (said_before cs nothing) ≡ encodes cs
said_whole [] = refl
said_whole (c ∷ cs) = ap (λ t. encode c ++ t) (said_whole cs)

-- the characters of an element that has a text
pub words_whole : (scope : Scope) (at : ℕ) (t : List ℕ) → IsXmlText t →
    whole_text_of (tree scope at (words t done) nothing) ≡ t
words_whole scope at t is = said_whole (chars t) ∙ (xml_characters t is).1

pub clean_cut : (scope : Scope) (at : ℕ) (t : List ℕ) → IsClean t →
    trimmed (whole_text_of (tree scope at (words t done) nothing)) ≡ t
clean_cut scope at t is = ap trimmed (words_whole scope at t (clean_xml t is)) ∙ clean_trimmed t is

-- the name that a tag's name stands for in the feed
abbrev pub resolved : QName → Name
resolved name = record { namespace = unwrap_or (namespace_of feed_scope name.prefix) []; local = name.local }

pub name_known : (tag : Tag) (at : ℕ) → filter_map declared tag.attributes ≡ [] →
    (element_of feed_scope tag at).name ≡ resolved tag.name
name_known tag at none =
    ap (λ bs. record { namespace = unwrap_or (namespace_of (bs ++ feed_scope) tag.name.prefix) []; local = tag.name.local })
    none

pub first_skip : (name : Name) (c : Child) (cs : List Child) → same_name c.element.name name ≡ false →
    first_of (named_in name (c ∷ cs)) ≡ first_of (named_in name cs)
first_skip name c cs other =
    ap first_of (cond-false (same_name c.element.name name) (c ∷ named_in name cs) (named_in name cs) other)

pub first_take : (name : Name) (c : Child) (cs : List Child) → same_name c.element.name name ≡ true →
    first_of (named_in name (c ∷ cs)) ≡ Some c
first_take name c cs same =
    ap first_of (cond-true (same_name c.element.name name) (c ∷ named_in name cs) (named_in name cs) same)

-- the first child of a name
pub child_is : (local : List ℕ) (at : ℕ) (n : Node) (c : Option Child) →
    first_of (named_in (atom local) (kids feed_scope at n)) ≡ c → child local (tree feed_scope at n nothing) ≡ c
child_is local at n c is = ap (λ cs. first_of (named_in (atom local) cs)) (kids_are feed_scope at n) ∙ is
