-- How the code tests words against the options of a command.
use Rattle.std.specs.Prelude.{◌≡◌, ℕ, List, [], ◌∷◌, ◌++◌, Bool, false, not, ◌==◌, ◌&&◌, Option, None, Some}
use Rattle.std.specs.Prelude.{Any, bytes_eq, map}
use Rattle.std.specs.Borrow.{Bor}
use Rattle.std.specs.List.{list_all, list_any}
use Rattle.std.specs.Option.{option_copied}
use Rattle.tool_words.specs.Options.{Given, AreOptions, IsKnown, spelled}
use Rattle.tool_words.specs.declared.options.Given.{Given as Read}

-- the same option in two words
abbrev pub apart : Given → Given
apart given = record { name = given.name; value = given.value; joined = false }

-- the option that was read
abbrev pub option_of : Read → Given
option_of read = record { name = read.name.now; value = option_copied read.value; joined = false }

-- the words are those of the option, in one word or in two, and then the others
abbrev pub BeginsWith : List (List ℕ) → Given → List (List ℕ) → Type 0
BeginsWith words given rest =
    (joined : Bool) × (words ≡ spelled (record { name = given.name; value = given.value; joined = joined }) ++ rest)

-- the names, as the code gives them
abbrev pub names_of : List (Bor (List ℕ)) → List (List ℕ)
names_of names = map (λ name. name.now) names

-- a name isn't empty, and has no `=`, at which the code would cut it
abbrev pub is_name : List ℕ → Bool
is_name [] = false
is_name (c ∷ more) = list_all (λ c. not (c == 61)) (c ∷ more)

abbrev pub are_names : List (List ℕ) → Bool
are_names names = list_all is_name names

-- no option has the name of a flag
abbrev pub are_apart : List (List ℕ) → List (List ℕ) → Bool
are_apart names flags = list_all (λ name. not (list_any (λ flag. bytes_eq flag name) flags)) names

-- names of options and names of flags
abbrev pub can_be_read : List (List ℕ) → List (List ℕ) → Bool
can_be_read names flags = are_names names && are_names flags && are_apart names flags

-- a flag has one of the names of flags, and an option has none of them
abbrev pub IsFormAs : List (List ℕ) → List ℕ → Option (List ℕ) → Type 0
IsFormAs flags name None = Any (λ flag. flag ≡ name) flags
IsFormAs flags name (Some value) = ¬ Any (λ flag. flag ≡ name) flags

abbrev pub IsOfForm : List (List ℕ) → Given → Type 0
IsOfForm flags given = IsFormAs flags given.name given.value

-- the option or the flag is known, and its name isn't one of those before it
pub record MayFollow (names flags : List (List ℕ)) (seen : List (List ℕ)) (given : Given) : Type 0 where
  pub known : IsKnown names flags given
  pub fresh : ¬ Any (λ name. name ≡ given.name) seen

-- the words are options and flags of these names
abbrev pub SpellOptions : List (List ℕ) → List (List ℕ) → List (List ℕ) → Type 0
SpellOptions names flags words = (options : List Given) × AreOptions names flags words options
