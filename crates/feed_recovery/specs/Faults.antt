-- Why a store isn't loaded. The payloads of the journal are looked at in order, then the number of seals, and then the
-- seals in order; the first fault decides.
use Rattle.std.specs.Prelude.{◌≡◌, ◌≢◌, ◌⊎◌, ℕ, ◌-◌, ◌≤◌, List, [], length, take, Some, slice_get}
use Rattle.atom_writer.specs.Pieced.{text_of, IsNoText, IsPlaceOfRefusal}
use Rattle.feed_disk.specs.declared.area.Area.TheVariants.{Journal}
use Rattle.feed_recovery.specs.Opening.{AreSeals, IsJournal, IsSealCount, seal_of}
use Rattle.feed_recovery.specs.declared.fault.LoadFault.{LoadFault}
use Rattle.feed_recovery.specs.declared.fault.LoadFault.TheVariants.{NotInit, BadRecord, SealCount, BadSeal}
use Rattle.feed_recovery.specs.declared.fault.LoadFault.TheVariants.{DiskFault, NoMemory}
use Rattle.member_rules.specs.Coding.{heads, operations}
use Rattle.member_rules.specs.Head.{HeadValue}
use Rattle.member_rules.specs.History.{IsSmall, MayFollow}
use Rattle.member_rules.specs.Operation.{IsOperation}
use Rattle.member_rules.specs.declared.operation.Op.{Op}

-- the first payload isn't the bytes of a head: its first bad field is at this offset
pub record IsBadHead (payloads : List (List ℕ)) (at : ℕ) : Type 0 where
  pub payload : List ℕ
  pub there : slice_get payloads 0 ≡ Some payload
  pub none : IsNoText heads payload
  pub place : IsPlaceOfRefusal heads payload at

-- the payload is the bytes of an operation that can't follow the history, or whose entry is too large
pub record IsUnlawful (head : HeadValue) (history : List Op) (payload : List ℕ) : Type 0 where
  pub operation : Op
  pub rules : IsOperation operation
  pub bytes : payload ≡ text_of operations operation
  pub cause : (¬ MayFollow head.created history operation) ⊎ (¬ IsSmall head.name operation)

-- the payload isn't the bytes of an operation, or is unlawful; the offset is that of its first bad field, or its length
abbrev pub IsBadOperation : HeadValue → List Op → List ℕ → ℕ → Type 0
IsBadOperation head history payload at =
    (IsNoText operations payload × IsPlaceOfRefusal operations payload at)
    ⊎ (IsUnlawful head history payload × (at ≡ length payload))

-- the payload of this index is the first bad one, and those before it are a journal's
pub record IsFirstBad (payloads : List (List ℕ)) (index at : ℕ) : Type 0 where
  pub head : HeadValue
  pub history : List Op
  pub before : IsJournal (take index payloads) head history
  pub payload : List ℕ
  pub there : slice_get payloads index ≡ Some payload
  pub bad : IsBadOperation head history payload at

abbrev pub IsBadRecord : List (List ℕ) → ℕ → ℕ → Type 0
IsBadRecord payloads index at = ((index ≡ 0) × IsBadHead payloads at) ⊎ ((1 ≤ index) × IsFirstBad payloads index at)

-- the journal is a history's, and the number of seals isn't one that it may have
pub record IsBadCount (journal sealed : List (List ℕ)) (records seals : ℕ) : Type 0 where
  pub head : HeadValue
  pub history : List Op
  pub is_journal : IsJournal journal head history
  pub number : records ≡ length history
  pub sealed_number : seals ≡ length sealed
  pub bad : ¬ IsSealCount head history seals

-- this seal, counted from 1, is the first that isn't the text of its archive
pub record IsFirstWrong (head : HeadValue) (history : List Op) (sealed : List (List ℕ)) (index : ℕ) : Type 0 where
  pub from_one : 1 ≤ index
  pub before : AreSeals head history (take (index - 1) sealed)
  pub payload : List ℕ
  pub there : slice_get sealed (index - 1) ≡ Some payload
  pub differs : payload ≢ seal_of head history index

-- the number of seals fits, and one is wrong
pub record IsBadSeal (journal sealed : List (List ℕ)) (index : ℕ) : Type 0 where
  pub head : HeadValue
  pub history : List Op
  pub is_journal : IsJournal journal head history
  pub count : IsSealCount head history (length sealed)
  pub wrong : IsFirstWrong head history sealed index

-- the fault has its cause in the payloads of the two areas; a failed call and out of memory have none there
abbrev pub IsLoadFault : List (List ℕ) → List (List ℕ) → LoadFault → Type 0
IsLoadFault journal sealed NotInit = journal ≡ []
IsLoadFault journal sealed (BadRecord area index at) = (area ≡ Journal) × IsBadRecord journal index at
IsLoadFault journal sealed (SealCount records seals) = IsBadCount journal sealed records seals
IsLoadFault journal sealed (BadSeal index) = IsBadSeal journal sealed index
IsLoadFault journal sealed DiskFault = Unit {0}
IsLoadFault journal sealed NoMemory = Unit {0}
