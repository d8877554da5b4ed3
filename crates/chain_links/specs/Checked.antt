-- Texts that the parser of the URL Standard keeps as they are.
use Rattle.std.specs.Prelude.{◌≡◌, ℕ, List, None, Ok}
use Rattle.url.specs.Parser.{parse_url}
use Rattle.url.specs.Parts.{Parts, serialize}

-- the text is read as a URL whose text is the same
abbrev pub IsUrlText : List ℕ → Type 0
IsUrlText text = (url : Parts) × (parse_url None text ≡ Ok url) × (serialize url ≡ text)
