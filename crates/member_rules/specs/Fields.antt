-- Fields: the values of each kind and their bytes, and what it means to read one.
use Rattle.std.specs.Prelude.{◌≡◌, ◌≢◌, ℕ, ◌<◌, ◌≤◌, ◌^◌, ℤ, List, [], ◌∷◌, ◌++◌, Option, IfSome, length, Result, Ok, Err}
use Rattle.atom_values.specs.declared.category.Category.{Category}
use Rattle.atom_values.specs.declared.link.Link.{Link}
use Rattle.atom_values.specs.declared.person.Person.{Person}
use Rattle.atom_values.specs.declared.text.Text.{Text}
use Rattle.atom_values.specs.declared.text.TextKind.{TextKind}
use Rattle.atom_values.specs.Category.{IsCategory}
use Rattle.atom_values.specs.Entry.{IsText}
use Rattle.atom_values.specs.Link.{IsLink}
use Rattle.atom_values.specs.Listed.{IsListOf}
use Rattle.atom_values.specs.Person.{IsPerson}
use Rattle.atom_values.specs.Stamp.{IsStamp}
use Rattle.atom_values.specs.XmlText.{IsAtomText}
use Rattle.atom_writer.specs.Reading.{BeginsWith, IsReadInOneWay}
use Rattle.member_rules.specs.Coding.{number_field, size_field, stamp_field, text_field, option_field, list_field, kind_byte, construct_field, person_field, link_field, category_field}
use Rattle.member_rules.specs.declared.codec.fault.FieldFault.{FieldFault}
use Rattle.member_rules.specs.declared.codec.fault.FieldFault.TheVariants.{Mismatch, NoMemory}

-- a kind of field: the rules of its values, and the bytes of each
pub record Field (A : Type 0) : Type 1 where
  pub Is : A → Type 0
  pub bytes : A → List ℕ

-- the input begins with no field of this kind
abbrev pub IsAbsent : {A : Type 0} → Field A → List ℕ → Type 0
IsAbsent {A} field input = (other : A) (left : List ℕ) → field.Is other → input ≢ field.bytes other ++ left

-- no input begins with the bytes of two values
abbrev pub HasOneValue : {A : Type 0} → Field A → Type 0
HasOneValue field = IsReadInOneWay field.Is field.bytes

-- the fault has its cause: on a mismatch the field is absent, and the whole input is left; out of memory has no cause
-- in the input
abbrev pub IsFault : {A : Type 0} → Field A → List ℕ → FieldFault → List ℕ → Type 0
IsFault field input Mismatch rest = (rest ≡ input) × IsAbsent field input
IsFault field input NoMemory rest = Unit {0}

-- a field is read at the start of the input, and `rest` is left; `view` is how contracts see the value
abbrev pub ReadsAs : {A B : Type 0} → (A → B) → Field B → List ℕ → Result A FieldFault → List ℕ → Type 0
ReadsAs view field input (Ok value) rest = BeginsWith field.Is field.bytes input (view value) rest
ReadsAs view field input (Err fault) rest = IsFault field input fault rest

abbrev pub Reads : {A : Type 0} → Field A → List ℕ → Result A FieldFault → List ℕ → Type 0
Reads field input result rest = ReadsAs (λ value. value) field input result rest

-- the greatest number of one byte
abbrev pub byte_limit : ℕ
byte_limit = 255

unfoldable pub byte : Field ℕ
byte = record { Is = λ b. b < 256; bytes = λ b. b ∷ [] }

unfoldable pub number : Field ℕ
number = record { Is = λ n. n < 2 ^ 32; bytes = number_field }

unfoldable pub size : Field ℕ
size = record { Is = λ n. n < 2 ^ 64; bytes = size_field }

-- bytes of any kind after their number
unfoldable pub bytes_of_text : Field (List ℕ)
bytes_of_text = record { Is = λ text. length text < 2 ^ 32; bytes = text_field }

-- the number of a member
unfoldable pub counted : Field ℕ
counted = record { Is = λ n. (1 ≤ n) × (n < 2 ^ 32); bytes = number_field }

unfoldable pub stamp : Field ℤ
stamp = record { Is = IsStamp; bytes = stamp_field }

unfoldable pub text : Field (List ℕ)
text = record { Is = IsAtomText; bytes = text_field }

unfoldable pub kind : Field TextKind
kind = record { Is = λ _. Unit {0}; bytes = λ k. kind_byte k ∷ [] }

unfoldable pub construct : Field Text
construct = record { Is = IsText; bytes = construct_field }

unfoldable pub optional : {A : Type 0} → Field A → Field (Option A)
optional field = record { Is = λ value. IfSome value field.Is; bytes = option_field field.bytes }

-- at most `most` items
unfoldable pub listed : {A : Type 0} → ℕ → Field A → Field (List A)
listed most field = record { Is = IsListOf most field.Is; bytes = list_field field.bytes }

unfoldable pub person : Field Person
person = record { Is = IsPerson; bytes = person_field }

unfoldable pub link : Field Link
link = record { Is = IsLink; bytes = link_field }

unfoldable pub category : Field Category
category = record { Is = IsCategory; bytes = category_field }
