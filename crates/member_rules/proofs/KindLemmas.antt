-- Lists of fields whose first byte tells what follows.
use Rattle.std.proofs.Common.{◌≡◌, ℕ, List, [], ◌∷◌, ◌++◌, sym, ap, subst, ◌∙◌}
use Rattle.atom_writer.specs.Pieced.{Pieced, text_of}
use Rattle.atom_writer.specs.Pieces.{joined}
use Rattle.atom_writer.specs.Reading.{BeginsWith}
use Rattle.atom_writer.proofs.PieceLemmas.{joined-cons}
use Rattle.atom_writer.proofs.SameLemmas.{Same}
use Rattle.member_rules.specs.FieldLists.{StopsAt}

-- the values of a kind: their first field is this byte, and the others are those of `part`
pub record IsKind {A O : Type 0} (whole : Pieced O) (tag : ℕ) (part : Pieced A) (into : A → O) : Type 0 where
  pub is : (a : A) → part.Is a → whole.Is (into a)
  pub was : (a : A) → whole.Is (into a) → part.Is a
  pub pieces : (a : A) → whole.pieces (into a) ≡ (tag ∷ []) ∷ part.pieces a
  pub only : (o : O) (behind more : List (List ℕ)) → whole.pieces o ++ behind ≡ (tag ∷ []) ∷ more
      → (a : A) × (o ≡ into a)

module _ {A O : Type 0} (whole : Pieced O) (tag : ℕ) (part : Pieced A) (into : A → O)
    (kind : IsKind whole tag part into)
    (input middle : List ℕ) (tagged : input ≡ tag ∷ middle) where
  pub kind_found : (a : A) (rest : List ℕ) → BeginsWith part.Is (text_of part) middle a rest
      → BeginsWith whole.Is (text_of whole) input (into a) rest
  kind_found a rest f = record {
    lawful = kind.is a f.lawful;
    split = tagged ∙ ap (λ z. tag ∷ z) f.split ∙ ap (λ (z : List ℕ). z ++ rest) (sym (joined-cons (tag ∷ [])
        (part.pieces a)))
        ∙ ap (λ z. joined z ++ rest) (sym (kind.pieces a));
  }

  pub kind_stops : (rest : List ℕ) → StopsAt part middle rest → StopsAt whole input rest
  kind_stops rest s = record {
    read = (tag ∷ []) ∷ s.read;
    split = tagged ∙ ap (λ z. tag ∷ z) s.split ∙ ap (λ (z : List ℕ). z ++ rest) (sym (joined-cons (tag ∷ []) s.read));
    value = into s.value;
    lawful = kind.is s.value s.lawful;
    next = s.next;
    later = s.later;
    begins = kind.pieces s.value ∙ ap (λ z. (tag ∷ []) ∷ z) s.begins;
    stuck = λ other lawful behind p after left e f.
        let a = kind.only other behind (s.read ++ p ∷ left) e in
        let K : O → Type 0 = whole.Is in
        let g : (tag ∷ []) ∷ (part.pieces a.0 ++ behind) ≡ (tag ∷ []) ∷ (s.read ++ p ∷ left) =
        ap (λ z. z ++ behind) (sym (kind.pieces a.0)) ∙ ap (λ z. whole.pieces z ++ behind) (sym a.1) ∙ e in
        let tails : part.pieces a.0 ++ behind ≡ s.read ++ p ∷ left = cc in
        s.stuck a.0 (kind.was a.0 (subst K a.1 lawful)) behind p after left tails f;
  }

-- a fact of equal values
pub same_map : {R S : Type 0} (one other : List (List ℕ)) → (R → S) → Same one other R → Same one other S
same_map one other f s = record { free = s.free; whole = s.whole; value = λ e. f (s.value e) }
