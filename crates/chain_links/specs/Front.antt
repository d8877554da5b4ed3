-- Prefixes of a text, each with the rest of the text.
use Rattle.std.specs.Prelude.{◌≡◌, ℕ, ◌≤◌, List, [], ◌∷◌, ◌++◌, Bool, ◌||◌, ◌==◌, Option, IsTrue, unwrap_or, decimal}
use Rattle.std.specs.Int.{is_in_range}
use Rattle.atom_values.specs.Ascii.{colon, slash}
use Rattle.chain_links.specs.Base.{AreLabels, IsPort, AreSegments, default_port, host_text, port_text, path_text}

-- the first character passes the test
abbrev pub BeginsWith : (ℕ → Bool) → List ℕ → Type 0
BeginsWith test [] = ⊥
BeginsWith test (c ∷ cs) = IsTrue (test c)

-- the text is empty, or its first character fails the test
abbrev pub BeginsWithout : (ℕ → Bool) → List ℕ → Type 0
BeginsWithout test [] = Unit {0}
BeginsWithout test (c ∷ cs) = ¬ IsTrue (test c)

-- 1 to 9
abbrev pub is_first_digit : ℕ → Bool
is_first_digit c = is_in_range 49 57 c

-- `:` or `/`
abbrev pub is_host_end : ℕ → Bool
is_host_end c = (c == colon) || (c == slash)

abbrev pub HasHost : List ℕ → List ℕ → Type 0
HasHost text rest = (labels : List (List ℕ)) × AreLabels labels × (text ≡ host_text labels ++ rest)

-- the port is the default one if none is written
abbrev pub HasPort : List ℕ → ℕ → List ℕ → Type 0
HasPort text port rest =
    (written : Option ℕ) × IsPort written × (port ≡ unwrap_or written default_port) × (text ≡ port_text written ++ rest)

abbrev pub HasNumber : List ℕ → ℕ → List ℕ → Type 0
HasNumber text number rest = (1 ≤ number) × (text ≡ decimal number ++ rest)

abbrev pub IsPath : List ℕ → Type 0
IsPath text = (segments : List (List ℕ)) × AreSegments segments × (text ≡ path_text segments)
