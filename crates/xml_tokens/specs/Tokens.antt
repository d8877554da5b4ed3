-- The tokens of an XML document, each with its spellings.
use Rattle.std.specs.Prelude.{◌≡◌, ◌≢◌, ◌⊎◌, ℕ, List, [], ◌∷◌, ◌++◌, map, flat_map, All, Bool, true, false, ◌&&◌, ◌||◌}
use Rattle.std.specs.Prelude.{◌==◌, IsTrue}
use Rattle.std.specs.Prelude.{if◌then◌else◌, Option, Some, None, codes, bytes_eq, encode_utf8}
use Rattle.std.specs.List.{list_all, IsDistinct}
use Rattle.std.specs.Char.{is_ascii_alphabetic, is_ascii_alphanumeric}
use Rattle.std.specs.Str.{str_eq_ignore_ascii_case}
use Rattle.atom_values.specs.Ascii.{tab, lf, cr, space, quote, ampersand, minus, point, less_than, underscore}
use Rattle.atom_values.specs.XmlText.{IsXmlText}
use Rattle.xml_tokens.specs.Characters.{QName, IsQName, name_text, IsName, AreSpaces, IsGap, IsCharacter, IsReference}
use Rattle.xml_tokens.specs.Characters.{apostrophe, begins, lacks, lines}

-- a character of a value: a byte as it is written, or a reference to a character, with its spelling
pub data Piece : Type 0 where
  byte : ℕ → Piece
  reference : ℕ → List ℕ → Piece

abbrev pub piece_text : Piece → List ℕ
piece_text (byte b) = b ∷ []
piece_text (reference c text) = text

-- a literal tab or LF is read as a space (XML 1.0 section 3.3.3)
abbrev pub piece_read : Piece → List ℕ
piece_read (byte b) = (if (b == tab) || (b == lf) then space else b) ∷ []
piece_read (reference c text) = encode_utf8 c

abbrev pub IsPiece : ℕ → Piece → Type 0
IsPiece q (byte b) = (b ≢ q) × (b ≢ less_than) × (b ≢ ampersand)
IsPiece q (reference c text) = IsReference c text

-- `text` between two quotes `q` is read as this value (XML 1.0, production 10)
pub record IsValue (q : ℕ) (value text : List ℕ) : Type 0 where
  pub pieces : List Piece
  pub each : All (IsPiece q) pieces
  pub spelled : lines text ≡ flat_map piece_text pieces
  pub read : value ≡ flat_map piece_read pieces

abbrev pub IsQuote : ℕ → Type 0
IsQuote q = (q ≡ quote) ⊎ (q ≡ apostrophe)

-- white space, a name, `=` in white space, and this text in quotes `q`
pub record IsSetting (q : ℕ) (name inside text : List ℕ) : Type 0 where
  pub gap : List ℕ
  pub before : List ℕ
  pub behind : List ℕ
  pub is_gap : IsGap gap
  pub is_before : AreSpaces before
  pub is_behind : AreSpaces behind
  pub is_quote : IsQuote q
  pub spelled : text ≡ gap ++ name ++ before ++ codes "=" ++ behind ++ q ∷ inside ++ q ∷ []

pub record Attribute : Type 0 where
  pub name : QName
  pub value : List ℕ

-- an attribute with the white space before it (XML 1.0, production 41)
pub record IsAttribute (attribute : Attribute) (text : List ℕ) : Type 0 where
  pub name : IsQName attribute.name
  pub q : ℕ
  pub inside : List ℕ
  pub value : IsValue q attribute.value inside
  pub setting : IsSetting q (name_text attribute.name) inside text

-- attributes, one after another
abbrev pub AreAttributes : List Attribute → List ℕ → Type 0
AreAttributes [] text = text ≡ []
AreAttributes (a ∷ more) text =
    (front : List ℕ) × (rest : List ℕ) × IsAttribute a front × AreAttributes more rest × (text ≡ front ++ rest)

-- a tag that begins an element; an empty element has no other tag
pub record Tag : Type 0 where
  pub name : QName
  pub attributes : List Attribute
  pub is_empty : Bool

-- a tag (XML 1.0, productions 40 and 44); no two of its attributes have the same name
pub record IsTag (tag : Tag) (text : List ℕ) : Type 0 where
  pub name : IsQName tag.name
  pub inside : List ℕ
  pub spaces : List ℕ
  pub attributes : AreAttributes tag.attributes inside
  pub distinct : IsDistinct bytes_eq (map (λ (a : Attribute). name_text a.name) tag.attributes)
  pub are_spaces : AreSpaces spaces
  pub spelled : text ≡ codes "<" ++ name_text tag.name ++ inside ++ spaces
      ++ (if tag.is_empty then codes "/>" else codes ">")

-- the name of an encoding (XML 1.0, production 81)
abbrev pub is_encoding_name : List ℕ → Bool
is_encoding_name [] = false
is_encoding_name (b ∷ bs) =
    is_ascii_alphabetic b
    && list_all (λ c. is_ascii_alphanumeric c || (c == point) || (c == underscore) || (c == minus)) bs

-- a setting of a declaration, if it is there
abbrev pub IsOptionalSetting : List ℕ → Option (List ℕ) → List ℕ → Type 0
IsOptionalSetting name None text = text ≡ []
IsOptionalSetting name (Some value) text = (q : ℕ) × IsSetting q name value text

abbrev pub IsOptionalEncoding : Option (List ℕ) → Type 0
IsOptionalEncoding None = Unit {0}
IsOptionalEncoding (Some name) = IsTrue (is_encoding_name name)

abbrev pub IsStandalone : Option (List ℕ) → Type 0
IsStandalone None = Unit {0}
IsStandalone (Some value) = (value ≡ codes "yes") ⊎ (value ≡ codes "no")

-- a declaration that names this encoding, if any (XML 1.0, production 23)
pub record IsDeclaration (encoding : Option (List ℕ)) (text : List ℕ) : Type 0 where
  pub version : List ℕ
  pub encoded : List ℕ
  pub alone : List ℕ
  pub spaces : List ℕ
  pub standalone : Option (List ℕ)
  pub is_version : IsOptionalSetting (codes "version") (Some (codes "1.0")) version
  pub is_encoded : IsOptionalSetting (codes "encoding") encoding encoded
  pub is_alone : IsOptionalSetting (codes "standalone") standalone alone
  pub is_encoding : IsOptionalEncoding encoding
  pub is_standalone : IsStandalone standalone
  pub are_spaces : AreSpaces spaces
  pub spelled : text ≡ codes "<?xml" ++ version ++ encoded ++ alone ++ spaces ++ codes "?>"

-- an encoding whose texts are UTF-8; a declaration without one has UTF-8
abbrev pub is_utf8_name : Option (List ℕ) → Bool
is_utf8_name None = true
is_utf8_name (Some name) =
    str_eq_ignore_ascii_case name (codes "utf-8") || str_eq_ignore_ascii_case name (codes "us-ascii")

-- a CDATA section, whose characters are read as these (XML 1.0, production 18)
pub record IsSection (read text : List ℕ) : Type 0 where
  pub inside : List ℕ
  pub first_end : IsTrue (lacks (codes "]]>") (inside ++ codes "]]"))
  pub spelled : text ≡ codes "<![CDATA[" ++ inside ++ codes "]]>"
  pub is_read : read ≡ lines inside

-- a comment (XML 1.0, production 15); no `--` stands in it, so it doesn't end with `--->`
pub record IsComment (text : List ℕ) : Type 0 where
  pub inside : List ℕ
  pub first_end : IsTrue (lacks (codes "--") (inside ++ codes "-"))
  pub spelled : text ≡ codes "<!--" ++ inside ++ codes "-->"

-- an instruction (XML 1.0, production 16), whose name isn't `xml` in any case and has no colon
pub record IsInstruction (text : List ℕ) : Type 0 where
  pub name : List ℕ
  pub inside : List ℕ
  pub is_name : IsName name
  pub no_declaration : str_eq_ignore_ascii_case name (codes "xml") ≡ false
  pub apart : (inside ≡ []) ⊎ ((gap : List ℕ) × (rest : List ℕ) × IsGap gap × (inside ≡ gap ++ rest))
  pub first_end : IsTrue (lacks (codes "?>") (inside ++ codes "?"))
  pub spelled : text ≡ codes "<?" ++ name ++ inside ++ codes "?>"

-- an end tag (XML 1.0, production 42; Namespaces in XML, production 13)
pub record IsEndTag (name : QName) (text : List ℕ) : Type 0 where
  pub is_name : IsQName name
  pub spaces : List ℕ
  pub are_spaces : AreSpaces spaces
  pub spelled : text ≡ codes "</" ++ name_text name ++ spaces ++ codes ">"

-- a line end that isn't LF alone: CR LF, or CR that LF doesn't follow
abbrev pub IsLineEnd : List ℕ → List ℕ → Type 0
IsLineEnd text rest = (text ≡ cr ∷ lf ∷ []) ⊎ ((text ≡ cr ∷ []) × (begins (lf ∷ []) rest ≡ false))

-- a character as it is written, before the text `rest` (XML 1.0, production 14); `]]>` doesn't stand in content
pub record IsPlain (text rest : List ℕ) : Type 0 where
  pub is_character : IsCharacter text
  pub no_tag : text ≢ less_than ∷ []
  pub no_reference : text ≢ ampersand ∷ []
  pub no_line_end : text ≢ cr ∷ []
  pub no_section_end : begins (codes "]]>") (text ++ rest) ≡ false

-- a literal character, read as these bytes
abbrev pub IsLiteral : List ℕ → List ℕ → List ℕ → Type 0
IsLiteral read text rest = ((read ≡ text) × IsPlain text rest) ⊎ ((read ≡ lf ∷ []) × IsLineEnd text rest)

-- a token, by what a reader learns from it
pub data Token : Type 0 where
  declaration : Option (List ℕ) → Token
  character : List ℕ → Token
  referred : ℕ → Token
  section : List ℕ → Token
  comment : Token
  instruction : Token
  opening : Tag → Token
  closing : QName → Token

-- `text` spells the token, before the text `rest`
abbrev pub IsForm : Token → List ℕ → List ℕ → Type 0
IsForm (declaration encoding) text rest = IsDeclaration encoding text
IsForm (character read) text rest = IsLiteral read text rest
IsForm (referred c) text rest = IsReference c text
IsForm (section read) text rest = IsSection read text
IsForm comment text rest = IsComment text
IsForm instruction text rest = IsInstruction text
IsForm (opening tag) text rest = IsTag tag text
IsForm (closing name) text rest = IsEndTag name text

-- each character of a token is an XML character
abbrev pub IsSpelled : Token → List ℕ → List ℕ → Type 0
IsSpelled token text rest = IsXmlText text × IsForm token text rest
