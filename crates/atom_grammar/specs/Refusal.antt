-- The offset at which bytes that are the text of no document are refused.
use Rattle.std.specs.Prelude.{◌≡◌, ◌≢◌, ℕ, List, [], ◌∷◌, ◌++◌}
use Rattle.atom_writer.specs.Doc.{DocValue, IsDoc}
use Rattle.atom_writer.specs.Pieced.{Pieced, BeginsAValue, IsPlaceOfRefusal as IsPlace}
use Rattle.atom_writer.specs.Pieces.{pieces, text}

-- documents, and the pieces of each
abbrev pub documents : Pieced DocValue
documents = record { Is = IsDoc; pieces = pieces }

-- the pieces begin the list of pieces of some document
abbrev pub BeginsADocument : List (List ℕ) → Type 0
BeginsADocument read = BeginsAValue documents read

-- the offset is the total length of the longest list of whole pieces that the bytes begin with and that begins the list
-- of some document
abbrev pub IsPlaceOfRefusal : List ℕ → ℕ → Type 0
IsPlaceOfRefusal bytes at = IsPlace documents bytes at

-- the bytes are the text of no document
abbrev pub IsNoDocument : List ℕ → Type 0
IsNoDocument bytes = (d : DocValue) → IsDoc d → bytes ≢ text d

-- no two documents have the same text
abbrev pub OneReading : Type 0
OneReading = (one other : DocValue) → IsDoc one → IsDoc other → text one ≡ text other → one ≡ other

-- no piece is a proper prefix of another that could stand in its place
abbrev pub PrefixFree : Type 0
PrefixFree = (read : List (List ℕ)) (one other rest : List ℕ) → BeginsADocument (read ++ one ∷ [])
    → BeginsADocument (read ++ other ∷ []) → other ≡ one ++ rest → other ≡ one
