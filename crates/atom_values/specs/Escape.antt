-- How the characters of a text are written in an XML document. Each character that is escaped is one byte
-- of UTF-8, and no byte of a longer sequence has its value, so a text is escaped byte by byte.
use Rattle.std.specs.Prelude.{◌≡◌, ◌≢◌, ◌↔◌, ℕ, ◌*◌, List, [], ◌∷◌, ◌++◌, Bool, ◌&&◌, ◌||◌, ◌==◌, if◌then◌else◌, Option, Some}
use Rattle.std.specs.Prelude.{IfSome, flat_map, codes}
use Rattle.atom_values.specs.Ascii.{tab, lf, cr, quote, ampersand, less_than, greater_than}
use Rattle.atom_values.specs.XmlText.{IsAtomText, text_limit}

-- & < > and CR are escaped everywhere, and " tab and LF in an attribute (quoted)
abbrev pub escaped_byte : Bool → ℕ → List ℕ
escaped_byte quoted b =
    if b == ampersand then codes "&amp;"
    else (if b == less_than then codes "&lt;"
    else (if b == greater_than then codes "&gt;"
    else (if b == cr then codes "&#13;"
    else (if quoted && (b == quote) then codes "&quot;"
    else (if quoted && (b == tab) then codes "&#9;"
    else (if quoted && (b == lf) then codes "&#10;" else b ∷ []))))))

-- a byte that is escaped, at least in an attribute
abbrev pub may_escape : ℕ → Bool
may_escape b =
    b == ampersand || b == less_than || b == greater_than || b == cr || b == quote || b == tab || b == lf

-- the escaped text
unfoldable pub escaped : Bool → List ℕ → List ℕ
escaped quoted text = flat_map (escaped_byte quoted) text

-- the greatest number of bytes of an escaped text: each byte is written in at most six
abbrev pub escaped_limit : ℕ
escaped_limit = 6 * text_limit

-- the written bytes don't begin with the written form of the byte
abbrev pub IsNotWritten : Bool → List ℕ → ℕ → Type 0
IsNotWritten quoted written b = (rest : List ℕ) → escaped_byte quoted b ++ rest ≢ written

-- `found` is the text whose escaped form the written bytes are, and None if no text has that form
pub record IsReadBack (quoted : Bool) (written : List ℕ) (found : Option (List ℕ)) : Type 0 where
  pub text : IfSome found IsAtomText
  pub exact : (t : List ℕ) → IsAtomText t → (found ≡ Some t) ↔ (escaped quoted t ≡ written)
