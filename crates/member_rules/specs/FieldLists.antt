-- Fields one after another: what it means to read all of them, and where reading stops.
use Rattle.std.specs.Prelude.{◌≡◌, ℕ, List, [], ◌∷◌, ◌++◌, Result, Ok, Err}
use Rattle.atom_writer.specs.Pieced.{Pieced, IsRefused, text_of}
use Rattle.atom_writer.specs.Pieces.{joined}
use Rattle.atom_writer.specs.Reading.{BeginsWith}
use Rattle.member_rules.specs.Fields.{Field}
use Rattle.member_rules.specs.declared.codec.fault.FieldFault.{FieldFault}
use Rattle.member_rules.specs.declared.codec.fault.FieldFault.TheVariants.{Mismatch, NoMemory}

-- a list of one field
unfoldable pub one : {A : Type 0} → Field A → Pieced A
one field = record { Is = field.Is; pieces = λ value. field.bytes value ∷ [] }

-- two lists of fields, of which the second may depend on the value of the first
unfoldable pub both : {A B : Type 0} → Pieced A → (A → Pieced B) → Pieced (A × B)
both first second = record {
  Is = λ pair. first.Is pair.0 × (second pair.0).Is pair.1;
  pieces = λ pair. first.pieces pair.0 ++ (second pair.0).pieces pair.1;
}

-- Some fields of a value are read up to `rest`, where the next field of no value is allowed, whatever is written after
-- the fields of that value.
pub record StopsAt {A : Type 0} (pieced : Pieced A) (input rest : List ℕ) : Type 0 where
  pub read : List (List ℕ)
  pub split : input ≡ joined read ++ rest
  pub value : A
  pub lawful : pieced.Is value
  pub next : List ℕ
  pub later : List (List ℕ)
  pub begins : pieced.pieces value ≡ read ++ next ∷ later
  pub stuck : (other : A) → pieced.Is other → (behind : List (List ℕ)) (field after : List ℕ) (left : List (List ℕ))
      → pieced.pieces other ++ behind ≡ read ++ field ∷ left → rest ≡ field ++ after → ⊥

-- the fault has its cause: on a mismatch `rest` begins with the field that isn't allowed there; out of memory has no
-- cause in the input
abbrev pub IsFault : {A : Type 0} → Pieced A → List ℕ → FieldFault → List ℕ → Type 0
IsFault pieced input Mismatch rest = StopsAt pieced input rest
IsFault pieced input NoMemory rest = Unit {0}

-- all fields are read at the start of the input, and `rest` is left; `view` is how contracts see the value
abbrev pub ReadsAll : {A B : Type 0} → (A → B) → Pieced B → List ℕ → Result A FieldFault → List ℕ → Type 0
ReadsAll view pieced input (Ok value) rest = BeginsWith pieced.Is (text_of pieced) input (view value) rest
ReadsAll view pieced input (Err fault) rest = IsFault pieced input fault rest

-- the input is the fields of a value and nothing after them
abbrev pub ReadsWhole : {A : Type 0} → Pieced A → List ℕ → Result A FieldFault → List ℕ → Type 0
ReadsWhole pieced input (Ok value) rest = pieced.Is value × (input ≡ text_of pieced value)
ReadsWhole pieced input (Err Mismatch) rest = IsRefused pieced [] input rest
ReadsWhole pieced input (Err NoMemory) rest = Unit {0}
