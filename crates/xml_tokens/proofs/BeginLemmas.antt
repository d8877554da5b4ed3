-- Texts that begin with given bytes.
use Rattle.std.proofs.Common.{◌≡◌, ℕ, ◌-◌, true, List, ◌++◌, length, take, drop, refl, arith}
use Rattle.std.proofs.lemmas.List.{take_all, length-drop}
use Rattle.std.proofs.lemmas.Bool.Decides.{Decides-eqb}
use Rattle.std.proofs.lemmas.Slice.Eq.{starts_is}
use Rattle.xml_tokens.specs.Characters.{begins}

pub begins_split : (bytes text : List ℕ) → begins bytes text ≡ true → text ≡ bytes ++ drop (length bytes) text
begins_split bytes text e = (starts_is Decides-eqb text bytes (begins bytes text) refl).0 e

pub begins_from : (bytes text rest : List ℕ) → text ≡ bytes ++ rest → begins bytes text ≡ true
begins_from bytes text rest e = (starts_is Decides-eqb text bytes (begins bytes text) refl).1 rest e

-- the text from an index on, as a slice
pub to_end : (text : List ℕ) (at : ℕ) → take (length text - at) (drop at text) ≡ drop at text
to_end text at = take_all (length text - at) (drop at text) (omega (arith, length-drop at text))
