-- Why a load refuses, over any disk: also over one whose content contracts don't see. Then the extents of the frames that
-- were read stand for the payloads. A payload is read short if the disk gives less of it than its frame's header says.
use Rattle.std.specs.Prelude.{◌≡◌, ◌⊎◌, ℕ, ◌+◌, ◌<◌, ◌≤◌, List, length, Some, slice_get}
use Rattle.atom_writer.specs.Pieced.{IsNoText, IsPlaceOfRefusal}
use Rattle.feed_disk.specs.declared.area.Area.TheVariants.{Journal}
use Rattle.feed_journal.specs.Log.{LogValue, IsLog, payload_lengths}
use Rattle.feed_journal.specs.Reading.{LacksNext}
use Rattle.feed_journal.specs.declared.extent.Extent.{Extent}
use Rattle.feed_recovery.specs.Faults.{IsBadOperation}
use Rattle.feed_recovery.specs.Opening.{IsSealCount}
use Rattle.feed_recovery.specs.declared.fault.LoadFault.{LoadFault}
use Rattle.feed_recovery.specs.declared.fault.LoadFault.TheVariants.{NotInit, BadRecord, SealCount, BadSeal}
use Rattle.feed_recovery.specs.declared.fault.LoadFault.TheVariants.{DiskFault, NoMemory}
use Rattle.member_rules.specs.Coding.{heads}
use Rattle.member_rules.specs.Head.{HeadValue, IsHead}
use Rattle.member_rules.specs.History.{IsLawful}
use Rattle.member_rules.specs.declared.operation.Op.{Op}

-- the bytes aren't those of a head: their first bad field is at this offset
abbrev pub IsNoHead : List ℕ → ℕ → Type 0
IsNoHead payload at = IsNoText heads payload × IsPlaceOfRefusal heads payload at

-- the bytes that were read of the payload of this index, as many as the log has for it, are bad at this offset
pub record IsBadThere (bad : List ℕ → ℕ → Type 0) (extents : List Extent) (index at : ℕ) : Type 0 where
  pub payload : List ℕ
  pub whole : slice_get (payload_lengths extents) index ≡ Some (length payload)
  pub is_bad : bad payload at

-- the offset of a payload that was read short is 0
abbrev pub IsShort : ℕ → Type 0
IsShort at = at ≡ 0

-- the payload was read short, or its bytes are bad
abbrev pub IsShortOrBad : (List ℕ → ℕ → Type 0) → List Extent → ℕ → ℕ → Type 0
IsShortOrBad bad extents index at = IsShort at ⊎ IsBadThere bad extents index at

-- the next frame after those of this log isn't read: its payload is short, a call failed, or memory ran out
abbrev pub RefusesNext : LogValue → LoadFault → Type 0
RefusesNext log NotInit = ⊥
RefusesNext log (BadRecord area index at) = (area ≡ Journal) × IsShort at × LacksNext log index
RefusesNext log (SealCount records seals) = ⊥
RefusesNext log (BadSeal number) = ⊥
RefusesNext log DiskFault = Unit {0}
RefusesNext log NoMemory = Unit {0}

-- The journal's payload of this index isn't taken: the fault names it, and an offset that `place` allows. Out of memory
-- names nothing.
abbrev pub RefusesRecord : (ℕ → Type 0) → ℕ → LoadFault → Type 0
RefusesRecord place index NotInit = ⊥
RefusesRecord place index (BadRecord area named at) = (area ≡ Journal) × (named ≡ index) × place at
RefusesRecord place index (SealCount records seals) = ⊥
RefusesRecord place index (BadSeal number) = ⊥
RefusesRecord place index DiskFault = ⊥
RefusesRecord place index NoMemory = Unit {0}

-- the payload of this index comes after those of a lawful history, and was read short, or can't follow them
pub record IsBadAfter (head : HeadValue) (extents : List Extent) (index at : ℕ) : Type 0 where
  pub history : List Op
  pub lawful : IsLawful head history
  pub follows : index ≡ length history + 1
  pub within : index < length extents
  pub place : IsShortOrBad (IsBadOperation head history) extents index at

-- the first payload, if there is one, isn't taken
pub record IsBadFirst (extents : List Extent) (index at : ℕ) : Type 0 where
  pub first : index ≡ 0
  pub some : 0 < length extents
  pub place : IsShortOrBad IsNoHead extents 0 at

-- an operation isn't taken after a head
pub record IsBadLater (extents : List Extent) (index at : ℕ) : Type 0 where
  pub head : HeadValue
  pub is_head : IsHead head
  pub after : IsBadAfter head extents index at

-- a journal with this list of payloads has a history of `records` operations, which can't have as many seals as the other
-- list
pub record IsOtherCount (journal seals : List Extent) (records found : ℕ) : Type 0 where
  pub head : HeadValue
  pub history : List Op
  pub is_head : IsHead head
  pub lawful : IsLawful head history
  pub records_is : records ≡ length history
  pub journal_is : length journal ≡ records + 1
  pub found_is : found ≡ length seals
  pub bad : ¬ IsSealCount head history found

-- Why a replay refuses a journal with this list of payloads, whatever the seals are. `NotInit` is only where the list is
-- empty. A payload that is read short is `BadRecord` of its own index at 0.
abbrev pub RefusesJournal : List Extent → LoadFault → Type 0
RefusesJournal journal NotInit = length journal ≡ 0
RefusesJournal journal (BadRecord area index at) =
    (area ≡ Journal) × (IsBadFirst journal index at ⊎ IsBadLater journal index at)
RefusesJournal journal (SealCount records found) = ⊥
RefusesJournal journal (BadSeal number) = ⊥
RefusesJournal journal DiskFault = Unit {0}
RefusesJournal journal NoMemory = Unit {0}

-- Why a load refuses these two lists of payloads: it refuses the journal, or a seal. One that is read short is `BadSeal`
-- of its number from 1.
abbrev pub Refuses : List Extent → List Extent → LoadFault → Type 0
Refuses journal seals NotInit = RefusesJournal journal NotInit
Refuses journal seals (BadRecord area index at) = RefusesJournal journal (BadRecord area index at)
Refuses journal seals (SealCount records found) = IsOtherCount journal seals records found
Refuses journal seals (BadSeal number) = (1 ≤ number) × (number ≤ length seals)
Refuses journal seals DiskFault = Unit {0}
Refuses journal seals NoMemory = Unit {0}

-- The fault is one of a replay of a journal. Over a disk that contracts don't see, no public clause names what the journal
-- lists, so that the journal here is only some one. The same holds of the two logs below.
pub record IsJournalRefusal (fault : LoadFault) : Type 0 where
  pub journal : LogValue
  pub rules : IsLog journal
  pub refuses : RefusesJournal journal.extents fault

-- the fault is one of a load of two logs
pub record IsRefusal (fault : LoadFault) : Type 0 where
  pub journal : LogValue
  pub seals : LogValue
  pub journal_rules : IsLog journal
  pub seals_rules : IsLog seals
  pub refuses : Refuses journal.extents seals.extents fault
