-- Why a load refuses, over any disk: also over one whose content contracts don't see. Then the list of the log that was
-- loaded stands for the payloads. A payload is read short if the disk gives less of it than the log has for it.
use Rattle.std.specs.Prelude.{◌≡◌, ◌≢◌, ◌⊎◌, ℕ, ◌<◌, List, length, map, take, slice_get, Some}
use Rattle.feed_journal.specs.Log.{IsLog, LogValue, payload_lengths}
use Rattle.feed_journal.specs.declared.extent.Extent.{Extent}
use Rattle.mirror_walk.specs.declared.mirror_fault.MirrorFault.{MirrorFault}
use Rattle.mirror_walk.specs.declared.mirror_fault.MirrorFault.TheVariants.{OtherBase, BadRecord, DiskFault}
use Rattle.mirror_walk.specs.declared.mirror_fault.MirrorFault.TheVariants.{NoMemory}
use Rattle.mirror_walk.specs.Accept.{IsKeptOf}
use Rattle.mirror_walk.specs.Holding.{KeptValue, payloads_of}
use Rattle.mirror_walk.specs.Loaded.{IsBadPayload, IsLoadedOf}

-- the bytes that were read of the payload of this index, as many as the log has for it, are bad at this offset
pub record IsBadThere (base : List ℕ) (kept : List KeptValue) (extents : List Extent) (index at : ℕ) : Type 0 where
  pub payload : List ℕ
  pub whole : slice_get (payload_lengths extents) index ≡ Some (length payload)
  pub is_bad : IsBadPayload base kept index payload at

-- the payload of this index was read short, and the offset is 0, or its bytes are bad after these documents
abbrev pub IsShortOrBad : List ℕ → List KeptValue → List Extent → ℕ → ℕ → Type 0
IsShortOrBad base kept extents index at = (at ≡ 0) ⊎ IsBadThere base kept extents index at

-- the bytes that were read of the first payload are a document with this other base
pub record IsOtherThere (base : List ℕ) (extents : List Extent) (other : List ℕ) : Type 0 where
  pub payload : List ℕ
  pub given : KeptValue
  pub whole : slice_get (payload_lengths extents) 0 ≡ Some (length payload)
  pub read : IsKeptOf payload given
  pub base_is : given.document.name.base ≡ other
  pub differs : other ≢ base

-- the payload of this index isn't taken after these documents; a failed call and out of memory name nothing
abbrev pub RefusesAt : List ℕ → List KeptValue → List Extent → ℕ → MirrorFault → Type 0
RefusesAt base kept extents index (OtherBase other) = (index ≡ 0) × IsOtherThere base extents other
RefusesAt base kept extents index (BadRecord named at) =
    (named ≡ index) × IsShortOrBad base kept extents index at
RefusesAt base kept extents index DiskFault = Unit {0}
RefusesAt base kept extents index NoMemory = Unit {0}

-- the payloads before this index are taken, and that of this index was read short, or its bytes are bad
pub record IsBadAfter (base : List ℕ) (extents : List Extent) (index at : ℕ) : Type 0 where
  pub kept : List KeptValue
  pub loaded : IsLoadedOf base (payloads_of kept) kept
  pub before : take index (payload_lengths extents) ≡ map length (payloads_of kept)
  pub count : length kept ≡ index
  pub within : index < length extents
  pub place : IsShortOrBad base kept extents index at

-- Why a load refuses the payloads of this list. The first payload that isn't taken after those before it decides.
abbrev pub Refuses : List ℕ → List Extent → MirrorFault → Type 0
Refuses base extents (OtherBase other) = IsOtherThere base extents other
Refuses base extents (BadRecord index at) = IsBadAfter base extents index at
Refuses base extents DiskFault = Unit {0}
Refuses base extents NoMemory = Unit {0}

-- The fault is one of a load of a log. Over a disk that contracts don't see, no public clause names what the log lists.
-- So it is only some log here.
pub record IsRefusal (base : List ℕ) (fault : MirrorFault) : Type 0 where
  pub log : LogValue
  pub rules : IsLog log
  pub refuses : Refuses base log.extents fault
