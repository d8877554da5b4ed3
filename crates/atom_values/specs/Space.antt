-- White space of XML (XML 1.0, production 3).
use Rattle.std.specs.Prelude.{ℕ, List, Bool, ◌==◌, ◌||◌, drop, reverse}
use Rattle.std.specs.List.{prefix_len}
use Rattle.atom_values.specs.Ascii.{tab, lf, cr, space}

abbrev pub is_space : ℕ → Bool
is_space b = (b == tab) || (b == lf) || (b == cr) || (b == space)

-- the text without white space at its beginning
abbrev pub without_leading : List ℕ → List ℕ
without_leading text = drop (prefix_len is_space text) text

-- the text without white space at both ends
abbrev pub trimmed : List ℕ → List ℕ
trimmed text = reverse (without_leading (reverse (without_leading text)))
