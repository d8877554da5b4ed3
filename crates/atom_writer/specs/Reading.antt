-- A text has one reading: the input begins with the text of one value only.
use Rattle.std.specs.Prelude.{◌≡◌, ℕ, List, ◌++◌}

-- the input is the text of this value and then the rest
pub record BeginsWith {A : Type 0} (Is : A → Type 0) (text : A → List ℕ) (input : List ℕ) (value : A) (rest : List ℕ)
    : Type 0 where
  pub lawful : Is value
  pub split : input ≡ text value ++ rest

-- the input begins with the text of at most one value
abbrev pub IsReadInOneWay : {A : Type 0} → (A → Type 0) → (A → List ℕ) → Type 0
IsReadInOneWay {A} Is text = (input : List ℕ) (one other : A) (rest left : List ℕ) → BeginsWith Is text input one rest
    → BeginsWith Is text input other left → (one ≡ other) × (rest ≡ left)
