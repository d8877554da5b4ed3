-- A piece is read by a reader of its own.
use Rattle.std.proofs.Common.{◌≡◌, List, ℕ, refl, sym, subst, Result, Ok, Err, IsErrAnd}
use Rattle.atom_grammar.specs.FeedParts.{ReadsPiece}
use Rattle.atom_grammar.specs.Parts.{Part, IsFound, IsAbsent, IsPartFault}
use Rattle.atom_grammar.specs.declared.part_fault.PartFault.{PartFault}
use Rattle.atom_grammar.specs.declared.part_fault.PartFault.TheVariants.{Mismatch, NoMemory}

pub found_here : {A : Type 0} (part : Part A) (input before : List ℕ) (value : A) (rest : List ℕ) → input ≡ before
    → IsFound part input value rest → IsFound part before value rest
found_here part input before value rest e f = subst (λ z. IsFound part z value rest) e f

pub stops_here : {A : Type 0} (part : Part A) (input before : List ℕ) (stop : PartFault) → input ≡ before
    → IsPartFault part input stop → ReadsPiece part before (Err stop) before
stops_here part input before Mismatch e none = (refl, subst (λ z. IsAbsent part z) e none)
stops_here part input before NoMemory e none = tt

-- the input begins with no part of this kind, and so with no piece of it
pub stops_piece : {A B : Type 0} (part : Part A) (piece : Part B) (input before : List ℕ) (e : PartFault)
    (r : Result B PartFault) → input ≡ before → IsPartFault part input e → IsErrAnd r (λ s. s ≡ e)
    → (IsAbsent part before → IsAbsent piece before) → ReadsPiece piece before r before
stops_piece part piece input before e (Ok x) same s is f = absurd is
stops_piece part piece input before Mismatch (Err x) same s is f =
    let P : PartFault → Type 0 = λ stop. ReadsPiece piece before (Err stop) before in
    subst P (sym is) (refl, f (subst (λ z. IsAbsent part z) same s))
stops_piece part piece input before NoMemory (Err x) same s is f =
    let P : PartFault → Type 0 = λ stop. ReadsPiece piece before (Err stop) before in
    subst P (sym is) tt
