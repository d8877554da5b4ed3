-- Values that are written as pieces, one after another, and the offset at which bytes are refused that are the text of
-- no value.
use Rattle.std.specs.Prelude.{◌≡◌, ◌≢◌, ℕ, ◌≤◌, List, [], ◌∷◌, ◌++◌, length}
use Rattle.atom_writer.specs.Pieces.{joined}

-- a kind of values, and the pieces of each
pub record Pieced (A : Type 0) : Type 1 where
  pub Is : A → Type 0
  pub pieces : A → List (List ℕ)

-- the text of a value
abbrev pub text_of : {A : Type 0} → Pieced A → A → List ℕ
text_of pieced value = joined (pieced.pieces value)

-- the pieces begin the list of pieces of some value
pub record BeginsAValue {A : Type 0} (pieced : Pieced A) (read : List (List ℕ)) : Type 0 where
  pub value : A
  pub lawful : pieced.Is value
  pub later : List (List ℕ)
  pub begins : pieced.pieces value ≡ read ++ later

-- the bytes begin with these whole pieces
pub record BeginsWithPieces (bytes : List ℕ) (read : List (List ℕ)) : Type 0 where
  pub rest : List ℕ
  pub split : bytes ≡ joined read ++ rest

-- the offset is the total length of the longest list of whole pieces that the bytes begin with and that begins the list
-- of some value
pub record IsPlaceOfRefusal {A : Type 0} (pieced : Pieced A) (bytes : List ℕ) (at : ℕ) : Type 0 where
  pub read : List (List ℕ)
  pub some : BeginsAValue pieced read
  pub there : BeginsWithPieces bytes read
  pub place : at ≡ length (joined read)
  pub longest : (other : List (List ℕ)) → BeginsAValue pieced other → BeginsWithPieces bytes other
      → length (joined other) ≤ at

-- the bytes are the text of no value
abbrev pub IsNoText : {A : Type 0} → Pieced A → List ℕ → Type 0
IsNoText {A} pieced bytes = (value : A) → pieced.Is value → bytes ≢ text_of pieced value

-- no two values have the same text
abbrev pub HasOneReading : {A : Type 0} → Pieced A → Type 0
HasOneReading {A} pieced = (one other : A) → pieced.Is one → pieced.Is other
    → text_of pieced one ≡ text_of pieced other → one ≡ other

-- no piece is a proper prefix of another that could stand in its place
abbrev pub IsPrefixFree : {A : Type 0} → Pieced A → Type 0
IsPrefixFree pieced = (read : List (List ℕ)) (one other rest : List ℕ) → BeginsAValue pieced (read ++ one ∷ [])
    → BeginsAValue pieced (read ++ other ∷ []) → other ≡ one ++ rest → other ≡ one

-- After the pieces `read`, the input is read up to `rest`, where no piece is allowed. The pieces read so far begin a
-- value's, and they are not a whole value's that end with the input.
pub record IsRefused {A : Type 0} (pieced : Pieced A) (read : List (List ℕ)) (input rest : List ℕ) : Type 0 where
  pub more : List (List ℕ)
  pub split : input ≡ joined more ++ rest
  pub begins : BeginsAValue pieced (read ++ more)
  pub unfinished : begins.later ≡ [] → rest ≡ [] → ⊥
  pub stuck : (p after : List ℕ) → BeginsAValue pieced ((read ++ more) ++ p ∷ []) → rest ≡ p ++ after → ⊥
