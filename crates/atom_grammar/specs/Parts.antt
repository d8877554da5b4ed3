-- The parts of a text, how they are put together, and what it means to read one.
use Rattle.std.specs.Prelude.{◌≡◌, ◌≢◌, ℕ, ◌<◌, ◌≤◌, ◌^◌, List, [], ◌∷◌, ◌++◌, flat_map, Bool, true, false, not, ◌&&◌, ◌==◌, Option, Some, None, IfSome, Result, Ok, Err, ℤ, decimal}
use Rattle.atom_values.specs.Ascii.{quote}
use Rattle.atom_values.specs.Escape.{escaped}
use Rattle.atom_values.specs.Listed.{IsListOf}
use Rattle.atom_values.specs.Stamp.{IsStamp, printed as printed_stamp}
use Rattle.atom_values.specs.XmlText.{IsAtomText}
use Rattle.chain_links.specs.Address.{IsAddress, printed}
use Rattle.chain_links.specs.declared.address.Address.{Address}
use Rattle.deleted_entries.specs.FeedId.{member_id}
use Rattle.atom_grammar.specs.declared.part_fault.PartFault.{PartFault}
use Rattle.atom_grammar.specs.declared.part_fault.PartFault.TheVariants.{Mismatch, NoMemory}

-- a kind of part: its values, the text of each, and the texts that may follow it
pub record Part (A : Type 0) : Type 1 where
  pub Is : A → Type 0
  pub text : A → List ℕ
  pub Before : List ℕ → Type 0

-- the input is the text of this value and then the rest, and in no other way a value's text and a rest
pub record IsFound {A : Type 0} (part : Part A) (input : List ℕ) (value : A) (rest : List ℕ) : Type 0 where
  pub lawful : part.Is value
  pub split : input ≡ part.text value ++ rest
  pub only : (other : A) (left : List ℕ) → part.Is other → part.Before left → input ≡ part.text other ++ left
      → (value ≡ other) × (rest ≡ left)

-- the input begins with the text of no value
abbrev pub IsAbsent : {A : Type 0} → Part A → List ℕ → Type 0
IsAbsent {A} part input =
    (other : A) (left : List ℕ) → part.Is other → part.Before left → input ≢ part.text other ++ left

-- the fault has its cause: a mismatch only if the part is absent; out of memory has no cause in the input
abbrev pub IsPartFault : {A : Type 0} → Part A → List ℕ → PartFault → Type 0
IsPartFault part input Mismatch = IsAbsent part input
IsPartFault part input NoMemory = Unit {0}

-- the part is read at the start of the input, and `rest` is left; `view` is how contracts see the value
abbrev pub ReadsAs : {A B : Type 0} → (A → B) → Part B → List ℕ → Result A PartFault → List ℕ → Type 0
ReadsAs view part input (Ok value) rest = IsFound part input (view value) rest
ReadsAs view part input (Err stop) rest = IsPartFault part input stop

abbrev pub Reads : {A : Type 0} → Part A → List ℕ → Result A PartFault → List ℕ → Type 0
Reads part input result rest = ReadsAs (λ value. value) part input result rest

-- the second list begins with the first
abbrev pub starts : List ℕ → List ℕ → Bool
starts [] text = true
starts (x ∷ xs) [] = false
starts (x ∷ xs) (y ∷ ys) = (x == y) && starts xs ys

-- the list begins with this byte
abbrev pub BeginsWithByte : ℕ → List ℕ → Type 0
BeginsWithByte byte text = (rest : List ℕ) × (text ≡ byte ∷ rest)

abbrev pub Anything : List ℕ → Type 0
Anything _ = Unit {0}

-- `<`, which begins a tag
abbrev pub open_tag : ℕ
open_tag = 60

-- exactly these bytes
unfoldable pub literal : List ℕ → Part (Unit {0})
literal bytes = record { Is = λ _. Unit {0}; text = λ _. bytes; Before = Anything }

-- an escaped text in an element, up to the next tag
unfoldable pub content : Part (List ℕ)
content = record { Is = IsAtomText; text = escaped false; Before = BeginsWithByte open_tag }

-- an escaped text in an attribute, up to the quote
unfoldable pub quoted : Part (List ℕ)
quoted = record { Is = IsAtomText; text = escaped true; Before = BeginsWithByte quote }

-- a printed timestamp
unfoldable pub moment : Part ℤ
moment = record { Is = IsStamp; text = printed_stamp; Before = Anything }

-- a number, up to the quote
unfoldable pub number : Part ℕ
number = record { Is = λ n. n < 2 ^ 32; text = decimal; Before = BeginsWithByte quote }

-- the address of a document below the base, up to the quote
unfoldable pub address : List ℕ → Part Address
address base = record { Is = IsAddress; text = printed base; Before = BeginsWithByte quote }

-- the identifier of a member of the feed
unfoldable pub member : List ℕ → Part ℕ
member feed = record { Is = λ n. (1 ≤ n) × (n < 2 ^ 32); text = member_id feed; Before = Anything }

-- two parts, one after the other
unfoldable pub both : {A B : Type 0} → Part A → Part B → Part (A × B)
both {A} {B} first second = record {
  Is = λ pair. first.Is pair.0 × second.Is pair.1;
  text = λ pair. first.text pair.0 ++ second.text pair.1;
  Before = λ rest. second.Before rest × ((value : B) → second.Is value → first.Before (second.text value ++ rest));
}

-- these bytes and then a part
unfoldable pub behind : {A : Type 0} → List ℕ → Part A → Part A
behind bytes part = record { Is = part.Is; text = λ value. bytes ++ part.text value; Before = part.Before }

-- a part and then these bytes
unfoldable pub ended : {A : Type 0} → Part A → List ℕ → Part A
ended part bytes = record {
  Is = part.Is;
  text = λ value. part.text value ++ bytes;
  Before = λ rest. part.Before (bytes ++ rest);
}

abbrev pub optional_text : {A : Type 0} → (A → List ℕ) → Option A → List ℕ
optional_text text None = []
optional_text text (Some value) = text value

-- a part that may be absent; it begins with these bytes, and the text after it doesn't
unfoldable pub optional : {A : Type 0} → List ℕ → Part A → Part (Option A)
optional bytes part = record {
  Is = λ value. IfSome value part.Is;
  text = optional_text part.text;
  Before = λ rest. starts bytes rest ≡ false;
}

-- at most `most` parts; each begins with these bytes, and the text after them doesn't
unfoldable pub many : {A : Type 0} → ℕ → List ℕ → Part A → Part (List A)
many most bytes part = record {
  Is = IsListOf most part.Is;
  text = flat_map part.text;
  Before = λ rest. starts bytes rest ≡ false;
}

-- a part that any text may follow
unfoldable pub alone : {A : Type 0} → Part A → Part A
alone part = record { Is = part.Is; text = part.text; Before = Anything }

-- a text is read as one value only
abbrev pub IsReadAlone : {A : Type 0} → Part A → Type 0
IsReadAlone {A} part =
    (one other : A) (rest left : List ℕ) → part.Is one → part.Is other → part.Before rest → part.Before left
    → part.text one ++ rest ≡ part.text other ++ left → (one ≡ other) × (rest ≡ left)

-- the list doesn't have the byte
abbrev pub lacks : ℕ → List ℕ → Bool
lacks byte [] = true
lacks byte (x ∷ xs) = not (x == byte) && lacks byte xs

-- the input is cut before the first `byte`
pub record IsCutAt (byte : ℕ) (input front rest : List ℕ) : Type 0 where
  pub split : input ≡ front ++ rest
  pub begins : BeginsWithByte byte rest
  pub free : lacks byte front ≡ true
