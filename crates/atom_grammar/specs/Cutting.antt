-- How a text is cut into pieces before they are read. A piece is one line, but for the three kinds that may have line
-- ends in their texts. Those end with their end tag, which no text has, since `<` is escaped.
use Rattle.std.specs.Prelude.{◌≡◌, ℕ, List, [], ◌∷◌, ◌++◌, All, true, if◌then◌else◌, codes}
use Rattle.atom_values.specs.Ascii.{lf}
use Rattle.atom_writer.specs.Pieces.{joined}
use Rattle.atom_grammar.specs.Parts.{starts, lacks}

-- the bytes that end a piece which begins like this text
abbrev pub mark_of : List ℕ → List ℕ
mark_of text =
    if starts (codes "<title>") text then codes "</title>\n"
    else (if starts (codes "<author>") text then codes "</author>\n"
    else (if starts (codes "<entry>") text then codes "</entry>\n" else codes "\n"))

-- the text ends as the piece does that begins like it
pub record IsWhole (text : List ℕ) : Type 0 where
  pub front : List ℕ
  pub split : text ≡ front ++ mark_of text

-- a whole text that begins with no shorter one
pub record IsCut (piece : List ℕ) : Type 0 where
  pub whole : IsWhole piece
  pub first : (front back : List ℕ) → piece ≡ front ++ back → IsWhole front → back ≡ []

-- the text begins with no whole one
abbrev pub IsUnfinished : List ℕ → Type 0
IsUnfinished text = (front back : List ℕ) → text ≡ front ++ back → IsWhole front → ⊥

-- whole texts, one after another
pub record AreWhole (text : List ℕ) : Type 0 where
  pub pieces : List (List ℕ)
  pub cut : All IsCut pieces
  pub split : text ≡ joined pieces

-- bytes of which the last one is the only line end
pub record IsLine (text : List ℕ) : Type 0 where
  pub front : List ℕ
  pub split : text ≡ front ++ lf ∷ []
  pub none : lacks lf front ≡ true
