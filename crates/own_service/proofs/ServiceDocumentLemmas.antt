-- A whole document: the declaration, the tag of the service, its content and the tag behind it.
use Rattle.std.proofs.Common.{◌≡◌, ℕ, ◌+◌, List, [], ◌∷◌, ◌++◌, length, refl, sym, ap, subst, ◌∙◌, inl, inr}
use Rattle.std.proofs.Common.{codes, lit<, append_assoc}
use Rattle.std.specs.Prelude.{chars, None, Some}
use Rattle.atom_values.specs.Ascii.{lf}
use Rattle.atom_values.specs.XmlText.{IsXmlText}
use Rattle.xml_tokens.specs.Tokens.{IsDeclaration, IsLiteral, IsSetting}
use Rattle.xml_tokens.specs.Tokens.Token.{declaration}
use Rattle.xml_tokens.specs.Stages.{Open, Stage, Lexeme, CanAllStand, IsWhole, lexemes_text, outer_scope, stage_after}
use Rattle.xml_tokens.specs.Stages.Stage.{start, epilog}
use Rattle.xml_tokens.specs.Tree.{Content, Element, IsDocument, contents, element_of, events, with_element}
use Rattle.xml_tokens.specs.Tree.Content.{nothing, element}
use Rattle.xml_tokens.proofs.SuffixLemmas.{line_xml}
use Rattle.std.proofs.lemmas.Str.{chars-IsAscii}
use Rattle.xml_tokens.proofs.XmlLemmas.{ascii_one, printable_xml, xml_append, xml_nil, xml_parts}
use Rattle.canonical_feed.proofs.CharacterLemmas.{Stand}
use Rattle.canonical_feed.proofs.DocumentLemmas.{declaration_text, line_end}
use Rattle.canonical_feed.proofs.NodeLemmas.{Node, IsGood, close_is, close_lexeme, close_xml, lex, node_text, open_lexeme}
use Rattle.canonical_feed.proofs.NodeLemmas.{safe_tag, stands, stays, tag_is, tag_text, tag_xml, text_is, tree, tree_is}
use Rattle.own_service.proofs.ServiceNodeLemmas.{document_text, service_good, service_name, service_scope, service_tag}

-- the lexemes of a document whose service has this content
abbrev document_lexemes : Node → List Lexeme
document_lexemes n =
    record { token = declaration (Some (codes "utf-8")); text = declaration_text } ∷ line_end ∷ open_lexeme service_tag
    ∷ lex n (close_lexeme service_name ∷ line_end ∷ [])

abbrev service_open : Open
service_open = record { name = service_name; scope = service_scope }

one_setting : (name value : List ℕ) → IsSetting 34 name value (codes " " ++ name ++ [] ++ codes "=" ++ [] ++ 34 ∷ value ++ 34 ∷ [])
one_setting name value = record {
  gap = codes " ";
  before = [];
  behind = [];
  is_gap = (refl, λ (e : codes " " ≡ []). cc);
  is_before = refl;
  is_behind = refl;
  is_quote = inl refl;
  spelled = refl;
}

declaration_is : IsDeclaration (Some (codes "utf-8")) declaration_text
declaration_is = record {
  version = codes " version=\"1.0\"";
  encoded = codes " encoding=\"utf-8\"";
  alone = [];
  spaces = [];
  standalone = None;
  is_version = (34, one_setting (codes "version") (codes "1.0"));
  is_encoded = (34, one_setting (codes "encoding") (codes "utf-8"));
  is_alone = refl;
  is_encoding = refl;
  is_standalone = tt;
  are_spaces = refl;
  spelled = refl;
}

one_line : length (chars (lf ∷ [])) ≡ 1
one_line = ap length (chars-IsAscii (10 ∷ []) (ascii_one 10 (lit< tt)))

line_is : (rest : List ℕ) → IsLiteral (lf ∷ []) (lf ∷ []) rest
line_is rest = inl (
  refl,
  record {
    is_character = (line_xml, one_line);
    no_tag = λ (e : 10 ∷ [] ≡ 60 ∷ []). cc;
    no_reference = λ (e : 10 ∷ [] ≡ 38 ∷ []). cc;
    no_line_end = λ (e : 10 ∷ [] ≡ 13 ∷ []). cc;
    no_section_end = refl;
  },
)

last_stand : CanAllStand 256 epilog (line_end ∷ []) []
last_stand = ((line_xml, line_is []), inr refl, tt)

content_stand : (n : Node) → IsGood service_scope 1 n →
    Stand 256 service_open [] (lex n (close_lexeme service_name ∷ line_end ∷ [])) []
content_stand n good =
    stands service_open [] 1 n (close_lexeme service_name ∷ line_end ∷ []) [] refl good (record {
      stand = (
        (close_xml service_name service_good.ascii, close_is service_name service_good.name),
        refl,
        last_stand,
      );
      safe = safe_tag (codes "/service>\n");
    })

document_stand : (n : Node) → IsGood service_scope 1 n → CanAllStand 256 start (document_lexemes n) []
document_stand n good = (
  (printable_xml declaration_text refl, declaration_is),
  (refl, refl),
  (
    (line_xml, line_is _),
    inr refl,
    (
      (tag_xml service_tag service_good, tag_is service_tag service_good),
      record { may = tt; depth = lit< tt; set = refl },
      (content_stand n good).stand,
    ),
  ),
)

document_whole : (n : Node) → IsGood service_scope 1 n →
    IsWhole 256 (lexemes_text (document_lexemes n)) (document_lexemes n)
document_whole n good = record {
  spelled = refl;
  stand = document_stand n good;
  ended = stays service_open [] 1 n (close_lexeme service_name ∷ line_end ∷ []) good;
}

lexemes_xml : (most : ℕ) (s : Stage) (ls : List Lexeme) (rest : List ℕ) → CanAllStand most s ls rest →
    IsXmlText (lexemes_text ls)
lexemes_xml most s [] rest stand = xml_nil
lexemes_xml most s (l ∷ ls) rest stand =
    xml_append l.text (lexemes_text ls) stand.0.0 (lexemes_xml most (stage_after s l.token) ls rest stand.2)

-- the offset of the service, and that of its content
abbrev pub service_at : ℕ
service_at = 0 + length declaration_text + length (lf ∷ [])

abbrev pub content_at : ℕ
content_at = service_at + length (tag_text service_tag)

abbrev pub service_element : Element
service_element = element_of outer_scope service_tag service_at

-- what the content is read as
abbrev pub content_of : Node → Content
content_of n = tree service_scope content_at n nothing

document_tree : (n : Node) → IsGood service_scope 1 n →
    contents (events start 0 (document_lexemes n)) ≡ element service_element (content_of n) nothing ∷ []
document_tree n good =
    ap (λ xs. with_element service_element xs)
    (tree_is service_open [] 1 content_at n (close_lexeme service_name ∷ line_end ∷ []) nothing (nothing ∷ []) good refl)

spelled_document : (n : Node) → IsGood service_scope 1 n →
    IsDocument 256 (lexemes_text (document_lexemes n)) service_element (content_of n)
spelled_document n good = record {
  utf8 = (xml_parts (lexemes_text (document_lexemes n))
      (lexemes_xml 256 start (document_lexemes n) [] (document_stand n good))).0;
  text = lexemes_text (document_lexemes n);
  lexemes = document_lexemes n;
  marked = refl;
  whole = document_whole n good;
  tree = document_tree n good;
}

document_spelled : (n : Node) → IsGood service_scope 1 n → lexemes_text (document_lexemes n) ≡ document_text n
document_spelled n good =
    ap (λ xs. declaration_text ++ (codes "\n" ++ (tag_text service_tag ++ xs)))
    (text_is service_scope 1 n (close_lexeme service_name ∷ line_end ∷ []) good)
    ∙ sym (append_assoc (declaration_text ++ codes "\n" ++ tag_text service_tag) (node_text n) (codes "</service>\n"))

-- the text of a document whose service has a good content
pub is_document : (n : Node) → IsGood service_scope 1 n →
    IsDocument 256 (document_text n) service_element (content_of n)
is_document n good =
    subst (λ t. IsDocument 256 t service_element (content_of n)) (document_spelled n good) (spelled_document n good)
