-- Texts of XML 1.0: UTF-8 whose characters are those of production 2, `Char`.
use Rattle.std.specs.Prelude.{◌≡◌, ℕ, ◌<◌, ◌≤◌, List, length, take, Bool, ◌&&◌, ◌||◌, ◌==◌, IsTrue, chars}
use Rattle.std.specs.List.{list_all}
use Rattle.std.specs.Int.{is_in_range}
use Rattle.std.specs.Str.{is_utf8}
use Rattle.atom_values.specs.Ascii.{tab, lf, cr}
use Rattle.atom_values.specs.declared.text.TextFault.{TextFault}
use Rattle.atom_values.specs.declared.text.TextFault.TheVariants.{TooLong, NotXmlChar, NoMemory}

-- the greatest number of bytes of a feed's text
abbrev pub text_limit : ℕ
text_limit = 65_536

-- tab, LF, CR, and all from U+20 on but the surrogates, U+FFFE and U+FFFF
abbrev pub is_xml_char : ℕ → Bool
is_xml_char c =
    (c == tab) || (c == lf) || (c == cr) || is_in_range 0x20 0xD7FF c || is_in_range 0xE000 0xFFFD c
    || is_in_range 0x1_0000 0x10_FFFF c

-- a byte of ASCII that is an XML character
abbrev pub is_plain : ℕ → Bool
is_plain b = (b == tab) || (b == lf) || (b == cr) || is_in_range 0x20 0x7F b

-- the bytes are UTF-8 of XML characters
unfoldable pub is_xml_text : List ℕ → Bool
is_xml_text bytes = is_utf8 bytes && list_all is_xml_char (chars bytes)

abbrev pub IsXmlText : List ℕ → Type 0
IsXmlText bytes = IsTrue (is_xml_text bytes)

-- the first `at` bytes are XML text, and no longer prefix is: at `at` begins the first sequence that isn't an XML
-- character
pub record IsLongestXmlPrefix (bytes : List ℕ) (at : ℕ) : Type 0 where
  pub before_end : at < length bytes
  pub is_text : IsXmlText (take at bytes)
  pub longest : (n : ℕ) → at < n → n ≤ length bytes → ¬ IsXmlText (take n bytes)

-- a text of a feed
pub record IsAtomText (bytes : List ℕ) : Type 0 where
  pub short : length bytes ≤ text_limit
  pub xml : IsXmlText bytes

-- why bytes are no text of a feed; running out of memory is no property of the bytes
abbrev pub IsTextFault : List ℕ → TextFault → Type 0
IsTextFault bytes (TooLong found) = (text_limit < length bytes) × (found ≡ length bytes)
IsTextFault bytes (NotXmlChar at) = (length bytes ≤ text_limit) × IsLongestXmlPrefix bytes at
IsTextFault bytes NoMemory = Unit {0}
