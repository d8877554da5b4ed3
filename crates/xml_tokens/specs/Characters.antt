-- Names, white space, line ends and references of XML 1.0, over the bytes of a text. A text is XML text, so each byte
-- from 128 on is part of a character from U+80 on.
use Rattle.std.specs.Prelude.{◌≡◌, ◌≢◌, ◌⊎◌, ℕ, ◌+◌, List, [], ◌∷◌, ◌++◌, length, Bool, true, false, ◌&&◌, ◌||◌, ◌==◌, not}
use Rattle.std.specs.Prelude.{IsTrue, codes, chars}
use Rattle.std.specs.Prelude.{if◌then◌else◌, nat_lt, nat_eq}
use Rattle.std.specs.List.{list_all, list_any, starts_with}
use Rattle.std.specs.Char.{is_ascii_digit, is_ascii_alphabetic}
use Rattle.std.specs.Str.Parse.{IsNumeral, digits_value}
use Rattle.atom_values.specs.Ascii.{tab, lf, cr, quote, ampersand, minus, point, colon, less_than, greater_than}
use Rattle.atom_values.specs.Ascii.{underscore}
use Rattle.atom_values.specs.XmlText.{IsXmlText, is_xml_char}
use Rattle.atom_values.specs.Space.{is_space}

-- '
abbrev pub apostrophe : ℕ
apostrophe = 39

-- the text begins with these bytes
abbrev pub begins : List ℕ → List ℕ → Bool
begins front text = starts_with nat_eq text front

-- a control character that isn't an XML character
abbrev pub is_control : ℕ → Bool
is_control b = nat_lt b 0x20 && not ((b == tab) || (b == lf) || (b == cr))

-- a byte with which a character may begin that isn't an XML character
abbrev pub is_suspect : ℕ → Bool
is_suspect b = is_control b || (b == 0xEF)

-- no byte of the text before its suffix `rest` is suspect
abbrev pub IsCleanBefore : List ℕ → List ℕ → Type 0
IsCleanBefore text rest = (front : List ℕ) × (text ≡ front ++ rest) × (list_any is_suspect front ≡ false)

-- a UTF-8 text that begins with a character that isn't an XML character: a control character, U+FFFE or U+FFFF
abbrev pub is_refused : List ℕ → Bool
is_refused [] = false
is_refused (b ∷ bs) =
    is_control b || begins (0xEF ∷ 0xBF ∷ 0xBE ∷ []) (b ∷ bs) || begins (0xEF ∷ 0xBF ∷ 0xBF ∷ []) (b ∷ bs)

-- the length of the longest front of a UTF-8 text that has XML characters only
abbrev pub allowed_length : List ℕ → ℕ
allowed_length [] = 0
allowed_length (b ∷ bs) = if is_refused (b ∷ bs) then 0 else 1 + allowed_length bs

-- the bytes stand nowhere in the text
abbrev pub lacks : List ℕ → List ℕ → Bool
lacks bytes [] = true
lacks bytes (b ∷ bs) = not (begins bytes (b ∷ bs)) && lacks bytes bs

-- white space
abbrev pub AreSpaces : List ℕ → Type 0
AreSpaces text = IsTrue (list_all is_space text)

-- white space of at least one character
abbrev pub IsGap : List ℕ → Type 0
IsGap text = AreSpaces text × (text ≢ [])

-- the first byte of a name: a letter, `_`, or part of a character from U+80 on
abbrev pub begins_name : ℕ → Bool
begins_name b = is_ascii_alphabetic b || (b == underscore) || not (nat_lt b 128)

-- a later byte of a name
abbrev pub continues_name : ℕ → Bool
continues_name b = begins_name b || is_ascii_digit b || (b == minus) || (b == point)

-- a name without a colon (Namespaces in XML, production 4)
abbrev pub is_name : List ℕ → Bool
is_name [] = false
is_name (b ∷ bs) = begins_name b && list_all continues_name bs

abbrev pub IsName : List ℕ → Type 0
IsName text = IsTrue (is_name text)

-- a qualified name (Namespaces in XML, production 7); the prefix may be empty
pub record QName : Type 0 where
  pub prefix : List ℕ
  pub local : List ℕ

abbrev pub IsQName : QName → Type 0
IsQName name = ((name.prefix ≡ []) ⊎ IsName name.prefix) × IsName name.local

-- a qualified name as it is written
abbrev pub written_name : List ℕ → List ℕ → List ℕ
written_name [] local = local
written_name (b ∷ bs) local = (b ∷ bs) ++ colon ∷ local

abbrev pub name_text : QName → List ℕ
name_text name = written_name name.prefix name.local

-- one XML character in UTF-8
abbrev pub IsCharacter : List ℕ → Type 0
IsCharacter text = IsXmlText text × (length (chars text) ≡ 1)

-- a text as it is read, where `after` says that CR is before it
abbrev pub lines_after : Bool → List ℕ → List ℕ
lines_after after [] = []
lines_after after (b ∷ bs) =
    if b == cr then lf ∷ lines_after true bs
    else (if after && (b == lf) then lines_after false bs else b ∷ lines_after false bs)

-- a text as it is read: each CR LF, and each other CR, as LF (XML 1.0 section 2.11)
abbrev pub lines : List ℕ → List ℕ
lines text = lines_after false text

-- a reference by name (XML 1.0 section 4.6)
abbrev pub IsNamed : ℕ → List ℕ → Type 0
IsNamed c text =
    ((c ≡ ampersand) × (text ≡ codes "&amp;")) ⊎ ((c ≡ less_than) × (text ≡ codes "&lt;"))
    ⊎ ((c ≡ greater_than) × (text ≡ codes "&gt;")) ⊎ ((c ≡ quote) × (text ≡ codes "&quot;"))
    ⊎ ((c ≡ apostrophe) × (text ≡ codes "&apos;"))

-- a reference by number, between `start` and a semicolon (XML 1.0, production 66); leading zeros may stand
pub record IsNumbered (base : ℕ) (start : List ℕ) (c : ℕ) (text : List ℕ) : Type 0 where
  pub digits : List ℕ
  pub numeral : IsNumeral base digits
  pub value : c ≡ digits_value base digits
  pub spelled : text ≡ start ++ digits ++ codes ";"

-- the text is a reference to the character c (XML 1.0, productions 66 and 68)
abbrev pub IsReference : ℕ → List ℕ → Type 0
IsReference c text =
    IsTrue (is_xml_char c)
    × (IsNamed c text ⊎ IsNumbered 10 (codes "&#") c text ⊎ IsNumbered 16 (codes "&#x") c text)
