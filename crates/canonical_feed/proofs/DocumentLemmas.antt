-- A whole document: the declaration, the tag of the feed, its content and the tag behind it.
use Rattle.std.proofs.Common.{◌≡◌, ℕ, ◌+◌, List, [], ◌∷◌, ◌++◌, length, refl, sym, ap, subst, ◌∙◌, inl, inr}
use Rattle.std.proofs.Common.{codes, lit<, append_assoc}
use Rattle.std.specs.Prelude.{bytes_eq, chars, None, Some}
use Rattle.std.specs.List.{IsDistinct}
use Rattle.atom_values.specs.Ascii.{lf}
use Rattle.atom_values.specs.XmlText.{IsXmlText}
use Rattle.xml_tokens.specs.Characters.{QName}
use Rattle.xml_tokens.specs.Tokens.{Attribute, Tag, IsDeclaration, IsLiteral, IsSetting}
use Rattle.xml_tokens.specs.Tokens.Token.{character, declaration}
use Rattle.xml_tokens.specs.Stages.{Open, Scope, Stage, Lexeme, CanAllStand, IsWhole, inner_scope, lexemes_text}
use Rattle.xml_tokens.specs.Stages.{outer_scope, stage_after}
use Rattle.xml_tokens.specs.Stages.Stage.{start, epilog}
use Rattle.xml_tokens.specs.Tree.{Content, Element, IsDocument, contents, element_of, events, with_element}
use Rattle.xml_tokens.specs.Tree.Content.{nothing, element}
use Rattle.xml_tokens.proofs.SuffixLemmas.{line_xml}
use Rattle.std.proofs.lemmas.Str.{chars-IsAscii}
use Rattle.xml_tokens.proofs.XmlLemmas.{ascii_one, printable_xml, xml_append, xml_nil, xml_parts}
use Rattle.canonical_feed.proofs.CharacterLemmas.{Stand}
use Rattle.canonical_feed.proofs.NodeLemmas.{Node, IsGood, IsGoodTag, begin_tag, close_is, close_lexeme}
use Rattle.canonical_feed.proofs.NodeLemmas.{close_xml, lex, node_text, open_lexeme, safe_tag, stands, stays, tag_is, tag_text}
use Rattle.canonical_feed.proofs.NodeLemmas.{tag_xml, text_is, tree, tree_is}

abbrev pub feed_name : QName
feed_name = record { prefix = []; local = codes "feed" }

abbrev pub declares : List ℕ → List ℕ → Attribute
declares prefix namespace = record { name = record { prefix = codes "xmlns"; local = prefix }; value = namespace }

-- the namespaces of a feed document
abbrev pub namespaces : List Attribute
namespaces =
    record { name = record { prefix = []; local = codes "xmlns" }; value = codes "http://www.w3.org/2005/Atom" }
    ∷ declares (codes "fh") (codes "http://purl.org/syndication/history/1.0")
    ∷ declares (codes "at") (codes "http://purl.org/atompub/tombstones/1.0")
    ∷ declares (codes "app") (codes "http://www.w3.org/2007/app") ∷ declares (codes "sp") (codes "urn:archived-feed:span:1")
    ∷ []

abbrev pub feed_tag : Tag
feed_tag = begin_tag feed_name namespaces

-- the scope in the feed
abbrev pub feed_scope : Scope
feed_scope = inner_scope outer_scope feed_tag

abbrev pub declaration_text : List ℕ
declaration_text = codes "<?xml version=\"1.0\" encoding=\"utf-8\"?>"

abbrev pub line_end : Lexeme
line_end = record { token = character (lf ∷ []); text = lf ∷ [] }

-- the lexemes of a document whose feed has this content
abbrev pub document_lexemes : Node → List Lexeme
document_lexemes n =
    record { token = declaration (Some (codes "utf-8")); text = declaration_text } ∷ line_end ∷ open_lexeme feed_tag
    ∷ lex n (close_lexeme feed_name ∷ line_end ∷ [])

abbrev pub feed_open : Open
feed_open = record { name = feed_name; scope = feed_scope }

distinct_namespaces : IsDistinct bytes_eq
    (codes "xmlns" ∷ codes "xmlns:fh" ∷ codes "xmlns:at" ∷ codes "xmlns:app" ∷ codes "xmlns:sp" ∷ [])
unfolding IsDistinct
distinct_namespaces =
    ((refl, (refl, (refl, (refl, tt)))), ((refl, (refl, (refl, tt))), ((refl, (refl, tt)), ((refl, tt), (tt, tt)))))

feed_good : IsGoodTag feed_tag
feed_good = record {
  name = (inl refl, refl);
  ascii = refl;
  attributes = (
    record { name = (inl refl, refl); ascii = refl; value = printable_xml (codes "http://www.w3.org/2005/Atom") refl },
    (
      record {
        name = (inr refl, refl);
        ascii = refl;
        value = printable_xml (codes "http://purl.org/syndication/history/1.0") refl;
      },
      (
        record {
          name = (inr refl, refl);
          ascii = refl;
          value = printable_xml (codes "http://purl.org/atompub/tombstones/1.0") refl;
        },
        (
          record {
            name = (inr refl, refl);
            ascii = refl;
            value = printable_xml (codes "http://www.w3.org/2007/app") refl;
          },
          (
            record {
              name = (inr refl, refl);
              ascii = refl;
              value = printable_xml (codes "urn:archived-feed:span:1") refl;
            },
            tt,
          ),
        ),
      ),
    ),
  );
  distinct = distinct_namespaces;
}

one_setting : (name value : List ℕ) → IsSetting 34 name value (codes " " ++ name ++ [] ++ codes "=" ++ [] ++ 34 ∷ value ++ 34 ∷ [])
one_setting name value = record {
  gap = codes " ";
  before = [];
  behind = [];
  is_gap = (refl, λ (e : codes " " ≡ []). cc);
  is_before = refl;
  is_behind = refl;
  is_quote = inl refl;
  spelled = refl;
}

declaration_is : IsDeclaration (Some (codes "utf-8")) declaration_text
declaration_is = record {
  version = codes " version=\"1.0\"";
  encoded = codes " encoding=\"utf-8\"";
  alone = [];
  spaces = [];
  standalone = None;
  is_version = (34, one_setting (codes "version") (codes "1.0"));
  is_encoded = (34, one_setting (codes "encoding") (codes "utf-8"));
  is_alone = refl;
  is_encoding = refl;
  is_standalone = tt;
  are_spaces = refl;
  spelled = refl;
}

one_line : length (chars (lf ∷ [])) ≡ 1
one_line = ap length (chars-IsAscii (10 ∷ []) (ascii_one 10 (lit< tt)))

line_is : (rest : List ℕ) → IsLiteral (lf ∷ []) (lf ∷ []) rest
line_is rest = inl (
  refl,
  record {
    is_character = (line_xml, one_line);
    no_tag = λ (e : 10 ∷ [] ≡ 60 ∷ []). cc;
    no_reference = λ (e : 10 ∷ [] ≡ 38 ∷ []). cc;
    no_line_end = λ (e : 10 ∷ [] ≡ 13 ∷ []). cc;
    no_section_end = refl;
  },
)

last_stand : CanAllStand 256 epilog (line_end ∷ []) []
last_stand = ((line_xml, line_is []), inr refl, tt)

content_stand : (n : Node) → IsGood feed_scope 1 n →
    Stand 256 feed_open [] (lex n (close_lexeme feed_name ∷ line_end ∷ [])) []
content_stand n good =
    stands feed_open [] 1 n (close_lexeme feed_name ∷ line_end ∷ []) [] refl good (record {
      stand = (
        (close_xml feed_name feed_good.ascii, close_is feed_name feed_good.name),
        refl,
        last_stand,
      );
      safe = safe_tag (codes "/feed>\n");
    })

declaration_xml : IsXmlText declaration_text
declaration_xml = printable_xml declaration_text refl

document_stand : (n : Node) → IsGood feed_scope 1 n → CanAllStand 256 start (document_lexemes n) []
document_stand n good = (
  (declaration_xml, declaration_is),
  (refl, refl),
  (
    (line_xml, line_is _),
    inr refl,
    (
      (tag_xml feed_tag feed_good, tag_is feed_tag feed_good),
      record { may = tt; depth = lit< tt; set = refl },
      (content_stand n good).stand,
    ),
  ),
)

document_whole : (n : Node) → IsGood feed_scope 1 n →
    IsWhole 256 (lexemes_text (document_lexemes n)) (document_lexemes n)
document_whole n good = record {
  spelled = refl;
  stand = document_stand n good;
  ended = stays feed_open [] 1 n (close_lexeme feed_name ∷ line_end ∷ []) good;
}

lexemes_xml : (most : ℕ) (s : Stage) (ls : List Lexeme) (rest : List ℕ) → CanAllStand most s ls rest →
    IsXmlText (lexemes_text ls)
lexemes_xml most s [] rest stand = xml_nil
lexemes_xml most s (l ∷ ls) rest stand =
    xml_append l.text (lexemes_text ls) stand.0.0 (lexemes_xml most (stage_after s l.token) ls rest stand.2)

-- the offset of the feed, and that of its content
abbrev pub feed_at : ℕ
feed_at = 0 + length declaration_text + length (lf ∷ [])

abbrev pub content_at : ℕ
content_at = feed_at + length (tag_text feed_tag)

abbrev pub feed_element : Element
feed_element = element_of outer_scope feed_tag feed_at

-- what the content is read as
abbrev pub content_of : Node → Content
content_of n = tree feed_scope content_at n nothing

document_tree : (n : Node) → IsGood feed_scope 1 n →
    contents (events start 0 (document_lexemes n)) ≡ element feed_element (content_of n) nothing ∷ []
document_tree n good =
    ap (λ xs. with_element feed_element xs)
    (tree_is feed_open [] 1 content_at n (close_lexeme feed_name ∷ line_end ∷ []) nothing (nothing ∷ []) good refl)

spelled_document : (n : Node) → IsGood feed_scope 1 n →
    IsDocument 256 (lexemes_text (document_lexemes n)) feed_element (content_of n)
spelled_document n good = record {
  utf8 = (xml_parts (lexemes_text (document_lexemes n))
      (lexemes_xml 256 start (document_lexemes n) [] (document_stand n good))).0;
  text = lexemes_text (document_lexemes n);
  lexemes = document_lexemes n;
  marked = refl;
  whole = document_whole n good;
  tree = document_tree n good;
}

abbrev pub document_text : Node → List ℕ
document_text n =
    declaration_text ++ codes "\n" ++ tag_text feed_tag ++ node_text n ++ codes "</feed>\n"

document_spelled : (n : Node) → IsGood feed_scope 1 n → lexemes_text (document_lexemes n) ≡ document_text n
document_spelled n good =
    ap (λ xs. declaration_text ++ (codes "\n" ++ (tag_text feed_tag ++ xs)))
    (text_is feed_scope 1 n (close_lexeme feed_name ∷ line_end ∷ []) good)
    ∙ sym (append_assoc (declaration_text ++ codes "\n" ++ tag_text feed_tag) (node_text n) (codes "</feed>\n"))

-- the text of a document whose feed has a good content
pub is_document : (n : Node) → IsGood feed_scope 1 n →
    IsDocument 256 (document_text n) feed_element (content_of n)
is_document n good =
    subst (λ t. IsDocument 256 t feed_element (content_of n)) (document_spelled n good) (spelled_document n good)
