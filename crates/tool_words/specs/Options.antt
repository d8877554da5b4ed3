-- The options of a command.
use Rattle.std.specs.Prelude.{◌≡◌, ◌≢◌, ℕ, List, [], ◌∷◌, ◌++◌, Bool, true, false, not, ◌==◌, if◌then◌else◌}
use Rattle.std.specs.Prelude.{Option, Some, None, All, Any, IsTrue, codes, bytes_eq, flat_map, map}
use Rattle.std.specs.List.{list_any}

-- an option with its value, or a flag, which has none; `joined` if name and value are in one word
pub record Given : Type 0 where
  pub name : List ℕ
  pub value : Option (List ℕ)
  pub joined : Bool

abbrev pub spelled_as : List ℕ → Option (List ℕ) → Bool → List (List ℕ)
spelled_as name None joined = (codes "--" ++ name) ∷ []
spelled_as name (Some value) true = (codes "--" ++ name ++ codes "=" ++ value) ∷ []
spelled_as name (Some value) false = (codes "--" ++ name) ∷ value ∷ []

-- the word `--name=value`, or the words `--name` and `value`; a flag is the word `--name`
abbrev pub spelled : Given → List (List ℕ)
spelled given = spelled_as given.name given.value given.joined

-- a value isn't empty and doesn't begin with `-`
abbrev pub is_value : List ℕ → Bool
is_value [] = false
is_value (first ∷ more) = not (first == 45)

-- no two options have the same name
abbrev pub AreDistinct : List (List ℕ) → Type 0
AreDistinct [] = Unit {0}
AreDistinct (name ∷ names) = All (λ other. other ≢ name) names × AreDistinct names

-- an option has one of the names and a value, and a flag one of the names of flags
abbrev pub IsKnownAs : List (List ℕ) → List (List ℕ) → List ℕ → Option (List ℕ) → Type 0
IsKnownAs names flags name None = Any (λ flag. flag ≡ name) flags
IsKnownAs names flags name (Some value) = IsTrue (is_value value) × Any (λ known. known ≡ name) names

abbrev pub IsKnown : List (List ℕ) → List (List ℕ) → Given → Type 0
IsKnown names flags given = IsKnownAs names flags given.name given.value

-- the words are options and flags of these names, in any order, each at most once
pub record AreOptions (names flags : List (List ℕ)) (words : List (List ℕ)) (options : List Given) : Type 0 where
  pub words_are : words ≡ flat_map spelled options
  pub known : All (IsKnown names flags) options
  pub distinct : AreDistinct (map (λ given. given.name) options)

-- the value of the option of this name
abbrev pub value_of : List ℕ → List Given → Option (List ℕ)
value_of name [] = None
value_of name (given ∷ options) = if bytes_eq given.name name then given.value else value_of name options

-- whether the option or the flag of this name is there
abbrev pub is_given : List ℕ → List Given → Bool
is_given name options = list_any (λ given. bytes_eq given.name name) options
