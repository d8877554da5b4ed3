-- The documents that the payloads of a mirror's area load to, and why they load to none.
use Rattle.std.specs.Prelude.{◌≡◌, ◌≢◌, ◌⊎◌, ℕ, ◌≤◌, List, [], map, length, take, slice_get, Some, Ok}
use Rattle.atom_grammar.specs.Refusal.{IsNoDocument, IsPlaceOfRefusal}
use Rattle.atom_writer.specs.Pieces.{text}
use Rattle.mirror_walk.specs.declared.answer.Accepted.TheVariants.{Taken}
use Rattle.mirror_walk.specs.declared.mirror_fault.MirrorFault.{MirrorFault}
use Rattle.mirror_walk.specs.declared.mirror_fault.MirrorFault.TheVariants.{OtherBase, BadRecord, DiskFault}
use Rattle.mirror_walk.specs.declared.mirror_fault.MirrorFault.TheVariants.{NoMemory}
use Rattle.mirror_walk.specs.Accept.{IsKeptOf, accept, own_text}
use Rattle.mirror_walk.specs.Holding.{KeptValue, payloads_of}
use Rattle.mirror_walk.specs.Offers.{AreAnswered, Offering}

-- a document as it may be offered again, under its own address
abbrev pub own_offer : KeptValue → Offering
own_offer kept = record { address = own_text kept.document; bytes = text kept.document }

-- payloads that a mirror with this base takes one after another, and what it holds then
pub record IsLoadedOf (base : List ℕ) (list : List (List ℕ)) (kept : List KeptValue) : Type 0 where
  pub payloads : list ≡ payloads_of kept
  pub taken : AreAnswered base [] (map own_offer kept) (map (λ _. Ok Taken) kept) kept

-- the first payload is a document with this other base
pub record IsOfOtherBase (base : List ℕ) (payloads : List (List ℕ)) (other : List ℕ) : Type 0 where
  pub payload : List ℕ
  pub given : KeptValue
  pub there : slice_get payloads 0 ≡ Some payload
  pub read : IsKeptOf payload given
  pub base_is : given.document.name.base ≡ other
  pub differs : other ≢ base

-- the payload is a document that isn't taken after those that are held
pub record IsNotTaken (base : List ℕ) (kept : List KeptValue) (payload : List ℕ) : Type 0 where
  pub given : KeptValue
  pub read : IsKeptOf payload given
  pub not_taken : accept base kept (own_text given.document) given ≢ Ok Taken

-- the payload is no document, and `at` is the offset of its first piece that is refused
pub record IsUnread (payload : List ℕ) (at : ℕ) : Type 0 where
  pub no_document : IsNoDocument payload
  pub place : IsPlaceOfRefusal payload at

-- The payload of this index is refused after the documents that are held: it is no document, or it isn't
-- taken. The offset is that of the refusal, or the payload's length.
abbrev pub IsBadPayload : List ℕ → List KeptValue → ℕ → List ℕ → ℕ → Type 0
IsBadPayload base kept index payload at =
    IsUnread payload at ⊎ ((1 ≤ index) × (at ≡ length payload) × IsNotTaken base kept payload)

-- the payload of this index is the first bad one: those before it are taken
pub record IsFirstBad (base : List ℕ) (payloads : List (List ℕ)) (index at : ℕ) : Type 0 where
  pub kept : List KeptValue
  pub before : IsLoadedOf base (take index payloads) kept
  pub payload : List ℕ
  pub there : slice_get payloads index ≡ Some payload
  pub bad : IsBadPayload base kept index payload at

-- the fault has its cause in the payloads of the area; a failed call and out of memory have none there
abbrev pub IsMirrorFault : List ℕ → List (List ℕ) → MirrorFault → Type 0
IsMirrorFault base payloads (OtherBase other) = IsOfOtherBase base payloads other
IsMirrorFault base payloads (BadRecord index at) = IsFirstBad base payloads index at
IsMirrorFault base payloads DiskFault = Unit {0}
IsMirrorFault base payloads NoMemory = Unit {0}
