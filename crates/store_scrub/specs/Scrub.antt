-- What makes a store sound, and the first fault of one that isn't.
use Rattle.std.specs.Prelude.{◌≡◌, ℕ, ◌-◌, ◌≤◌, List, [], length, take}
use Rattle.feed_disk.specs.declared.area.Area.{Area}
use Rattle.feed_disk.specs.declared.area.Area.TheVariants.{Journal, Sealed, Mirror}
use Rattle.feed_journal.specs.Log.{IsLog, LogValue}
use Rattle.feed_journal.specs.Records.{records, size_of, IsWhole}
use Rattle.feed_recovery.specs.Faults.{IsBadRecord, IsFirstWrong}
use Rattle.feed_recovery.specs.Opening.{AreSeals, IsJournal, IsSealCount, Opens}
use Rattle.feed_recovery.specs.Refused.{Refuses}
use Rattle.feed_recovery.specs.declared.fault.LoadFault.{LoadFault}
use Rattle.feed_recovery.specs.declared.fault.LoadFault.TheVariants.{NotInit as LoadNotInit, BadRecord as LoadBadRecord}
use Rattle.feed_recovery.specs.declared.fault.LoadFault.TheVariants.{SealCount as LoadSealCount, BadSeal as LoadBadSeal}
use Rattle.feed_recovery.specs.declared.fault.LoadFault.TheVariants.{DiskFault as LoadDiskFault, NoMemory as LoadNoMemory}
use Rattle.member_rules.specs.Head.{HeadValue}
use Rattle.member_rules.specs.Windows.{windows_of}
use Rattle.member_rules.specs.declared.operation.Op.{Op}
use Rattle.store_scrub.specs.declared.fault.Unsound.{Unsound}
use Rattle.store_scrub.specs.declared.fault.Unsound.TheVariants.{NotInit, BadRecord, SealCount, BadSeal, OpenGate}
use Rattle.store_scrub.specs.declared.fault.Unsound.TheVariants.{DiskFault, NoMemory}

-- The two areas open to a store of this number of operations and this number of seals, and no open gate follows the
-- payloads of either.
pub record IsSound (journal sealed : List ℕ) (operations seals : ℕ) : Type 0 where
  pub head : HeadValue
  pub history : List Op
  pub opens : Opens journal sealed head history seals
  pub number : operations ≡ length history
  pub journal_whole : IsWhole journal
  pub sealed_whole : IsWhole sealed

-- there are no other numbers
abbrev pub IsSoundInOneWay : Type 0
IsSoundInOneWay = (journal sealed : List ℕ) (operations seals number count : ℕ)
    → IsSound journal sealed operations seals → IsSound journal sealed number count
    → (operations ≡ number) × (seals ≡ count)

-- the journal is a history's, and this seal, counted from 1, is the first of those with an archive that isn't its text
pub record IsWrongSeal (journal sealed : List (List ℕ)) (index : ℕ) : Type 0 where
  pub head : HeadValue
  pub history : List Op
  pub is_journal : IsJournal journal head history
  pub within : index ≤ (windows_of head history).full
  pub wrong : IsFirstWrong head history sealed index

-- the journal is a history's, each seal that has an archive is its text, and there are too few or too many seals
pub record IsWrongCount (journal sealed : List (List ℕ)) (operations seals : ℕ) : Type 0 where
  pub head : HeadValue
  pub history : List Op
  pub is_journal : IsJournal journal head history
  pub right : AreSeals head history (take (windows_of head history).full sealed)
  pub number : operations ≡ length history
  pub found : seals ≡ length sealed
  pub bad : ¬ IsSealCount head history seals

-- an open gate follows the payloads of this area, at this offset; the journal is looked at first
abbrev pub IsOpenGate : List ℕ → List ℕ → Area → ℕ → Type 0
IsOpenGate journal sealed Journal at = (¬ IsWhole journal) × (at ≡ size_of (records journal) - 1)
IsOpenGate journal sealed Sealed at = IsWhole journal × (¬ IsWhole sealed) × (at ≡ size_of (records sealed) - 1)
IsOpenGate journal sealed Mirror at = ⊥

-- the two areas open to a store, and an open gate follows the payloads of one
pub record OpensUngated (journal sealed : List ℕ) (area : Area) (at : ℕ) : Type 0 where
  pub head : HeadValue
  pub history : List Op
  pub seals : ℕ
  pub opens : Opens journal sealed head history seals
  pub gate : IsOpenGate journal sealed area at

-- the fault has its cause in the two areas; a failed call and out of memory have none there
abbrev pub IsUnsound : List ℕ → List ℕ → Unsound → Type 0
IsUnsound journal sealed NotInit = records journal ≡ []
IsUnsound journal sealed (BadRecord area index at) = (area ≡ Journal) × IsBadRecord (records journal) index at
IsUnsound journal sealed (SealCount operations seals) = IsWrongCount (records journal) (records sealed) operations seals
IsUnsound journal sealed (BadSeal index) = IsWrongSeal (records journal) (records sealed) index
IsUnsound journal sealed (OpenGate area at) = OpensUngated journal sealed area at
IsUnsound journal sealed DiskFault = Unit {0}
IsUnsound journal sealed NoMemory = Unit {0}

-- the fault of a load, which a scrub has too
abbrev pub unsound_of : LoadFault → Unsound
unsound_of LoadNotInit = NotInit
unsound_of (LoadBadRecord area index at) = BadRecord area index at
unsound_of (LoadSealCount operations seals) = SealCount operations seals
unsound_of (LoadBadSeal index) = BadSeal index
unsound_of LoadDiskFault = DiskFault
unsound_of LoadNoMemory = NoMemory

-- the offset is that of the byte after the payloads of this area's log
abbrev pub IsGateOf : LogValue → LogValue → Area → ℕ → Type 0
IsGateOf journal seals Journal at = at ≡ journal.size - 1
IsGateOf journal seals Sealed at = at ≡ seals.size - 1
IsGateOf journal seals Mirror at = ⊥

-- why a scrub refuses two logs: as a load of them would, or for an open gate
abbrev pub RefusesStore : LogValue → LogValue → Unsound → Type 0
RefusesStore journal seals NotInit = Refuses journal.extents seals.extents LoadNotInit
RefusesStore journal seals (BadRecord area index at) =
    Refuses journal.extents seals.extents (LoadBadRecord area index at)
RefusesStore journal seals (SealCount operations found) =
    Refuses journal.extents seals.extents (LoadSealCount operations found)
RefusesStore journal seals (BadSeal index) = Refuses journal.extents seals.extents (LoadBadSeal index)
RefusesStore journal seals (OpenGate area at) = IsGateOf journal seals area at
RefusesStore journal seals DiskFault = Unit {0}
RefusesStore journal seals NoMemory = Unit {0}

-- The fault is one of a scrub of two logs. Over a disk that contracts don't see, no public clause names what the two logs
-- list, so that the two logs here are only some two.
pub record IsScrubRefusal (fault : Unsound) : Type 0 where
  pub journal : LogValue
  pub seals : LogValue
  pub journal_rules : IsLog journal
  pub seals_rules : IsLog seals
  pub refuses : RefusesStore journal seals fault
