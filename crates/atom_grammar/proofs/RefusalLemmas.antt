-- The laws of texts, and where a text is refused: the pieces of two documents can be compared.
use Rattle.std.proofs.Common.{◌≡◌, ℕ, ◌-◌, List, [], ◌++◌, length}
use Rattle.atom_writer.specs.Pieces.{joined, text}
use Rattle.atom_writer.proofs.PiecedLemmas as pieced
use Rattle.atom_grammar.specs.Refusal.{documents, IsPlaceOfRefusal, IsNoDocument, OneReading, PrefixFree}
use Rattle.atom_grammar.specs.Stages.{IsRefused}
use Rattle.atom_grammar.proofs.PairLemmas.{chain}

pub prefix_free : PrefixFree
prefix_free = pieced.prefix_free documents chain

pub one_reading : OneReading
unfolding text
one_reading = pieced.one_reading documents chain

-- the place of a refusal
pub refused_there : (bytes left : List ℕ) (at : ℕ) → IsRefused [] bytes left → at ≡ length bytes - length left
    → IsNoDocument bytes × IsPlaceOfRefusal bytes at
unfolding text
refused_there bytes left at r e = pieced.refused_there documents chain bytes left at r e

-- a refusal after more pieces
pub refused_behind : (read before : List (List ℕ)) (input middle left : List ℕ) → input ≡ joined before ++ middle
    → IsRefused (read ++ before) middle left → IsRefused read input left
refused_behind read before input middle left e r = pieced.refused_behind documents read before input middle left e r
