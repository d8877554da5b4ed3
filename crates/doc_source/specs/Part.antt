-- An offer of which a part was read.
use Rattle.std.specs.Prelude.{
  ◌≡◌,
  ◌≢◌,
  ℕ,
  ◌+◌,
  ◌<◌,
  ◌≤◌,
  List,
  [],
  ◌∷◌,
  ◌++◌,
  Option,
  None,
  Some,
  Result,
  Ok,
  Err,
  length,
  take,
  drop,
}
use Rattle.std.specs.Option.{ForSome}
use Rattle.atom_values.specs.Ascii.{lf}
use Rattle.doc_source.specs.Pile.{IsAddress, head_at, line_text, offer_limit}
use Rattle.doc_source.specs.Intake.{IntakeState}
use Rattle.doc_source.specs.Line.{HasNoLf}
use Rattle.doc_source.specs.declared.fault.PileFault.{PileFault}
use Rattle.doc_source.specs.declared.fault.PileFault.TheVariants.{BadPile, TooLong, SourceFault, NoMemory}
use Rattle.doc_source.specs.declared.part.Part.{Part}

-- a part keeps the rules of its offer: at most the offer's bytes and one more were taken after its line
pub record IsPart (part : Part) : Type 0 where
  pub is_address : IsAddress part.address
  pub short : part.count ≤ offer_limit
  pub within : length part.behind.items ≤ part.count + 1

-- the bytes of the pile that were used for a part, from the end of the offers before it
abbrev pub part_text : ℕ → Part → List ℕ
part_text used part = head_at used ++ (line_text part.address part.count ++ part.behind.items)

-- the bytes ahead, with those of the part in front
abbrev pub with_part : ℕ → Option Part → IntakeState → IntakeState
with_part used None intake = intake
with_part used (Some part) intake = record intake { ahead = part_text used part ++ intake.ahead }

abbrev pub part_of : Result (Option Part) PileFault → Option Part
part_of (Ok found) = found
part_of (Err fault) = None

-- a call after which the reader goes on
abbrev pub Stays : {A : Type 0} → Result A PileFault → Type 0
Stays (Ok x) = Unit {0}
Stays (Err (BadPile at)) = ⊥
Stays (Err (TooLong limit)) = ⊥
Stays (Err SourceFault) = Unit {0}
Stays (Err NoMemory) = ⊥

-- the bytes begin with the first line of the pile, where it is due
pub record HasHead (used : ℕ) (bytes : List ℕ) : Type 0 where
  pub rest : List ℕ
  pub whole : bytes ≡ head_at used ++ rest

-- the first line of an offer, which begins at `start`, ends with the LF at this index
pub record IsLineEnd (bytes : List ℕ) (start at : ℕ) : Type 0 where
  pub after : start ≤ at
  pub within : at < length bytes
  pub no_lf : HasNoLf (drop start (take at bytes))
  pub split : bytes ≡ take at bytes ++ (lf ∷ drop (at + 1) bytes)

-- all bytes of the part's offer were taken, and LF
pub record IsWhole (part : Part) : Type 0 where
  pub bytes : List ℕ
  pub count : length bytes ≡ part.count
  pub split : part.behind.items ≡ bytes ++ lf ∷ []

-- a reader keeps the rules of its part, and counts each byte that it took once: as used, in its part or ahead
pub record KeepsReader (used : ℕ) (part : Option Part) (intake : IntakeState)
    (refusal : Option PileFault) : Type 0 where
  pub rules : ForSome part IsPart
  pub sum : used + length (with_part used part intake).ahead ≡ intake.taken
  pub within : intake.taken ≤ intake.limit
  pub kept : refusal ≢ Some SourceFault
