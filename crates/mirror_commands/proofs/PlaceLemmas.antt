-- Bytes that are no document are refused at one place.
use Rattle.std.proofs.Common.{◌≡◌, ℕ, List, arith}
use Rattle.atom_grammar.specs.Refusal.{IsPlaceOfRefusal}

pub place_once : (input : List ℕ) (at other : ℕ) → IsPlaceOfRefusal input at → IsPlaceOfRefusal input other → at ≡ other
place_once input at other p q =
    omega (arith, p.place, q.place, p.longest q.read q.some q.there, q.longest p.read p.some p.there)
