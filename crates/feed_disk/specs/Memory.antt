-- A disk in memory as contracts see it, and the images that a crash may leave of it.
use Rattle.std.specs.Prelude.{◌≡◌, ◌⊎◌, ℕ, ◌^◌, ◌<◌, ◌≤◌, List, [], ◌∷◌, Contains}
use Rattle.atom_values.specs.Counts.{counted}
use Rattle.atom_values.specs.ListedCalls.{ListedCallsValue}
use Rattle.feed_disk.specs.Disk.{DiskState}
use Rattle.feed_disk.specs.AreaRecord.{AreaRecordValue, content_of, MayLeave, MayLeaveAt, UpTo, IsRecorded}
use Rattle.feed_disk.specs.declared.area.Area.{Area}
use Rattle.feed_disk.specs.declared.area.Area.TheVariants.{Journal, Sealed, Mirror}
use Rattle.feed_disk.specs.declared.areas.Areas.{Areas}
use Rattle.feed_disk.specs.declared.change.Change.{Change}

abbrev pub record_of : Areas → Area → AreaRecordValue
record_of areas Journal = areas.journal
record_of areas Sealed = areas.sealed
record_of areas Mirror = areas.mirror

abbrev pub with_record : Areas → Area → AreaRecordValue → Areas
with_record areas Journal value = record areas { journal = value }
with_record areas Sealed value = record areas { sealed = value }
with_record areas Mirror value = record areas { mirror = value }

-- the areas after one more change of this one
abbrev pub changed : Areas → Area → Change → Areas
changed areas area change =
    with_record areas area (record (record_of areas area) { changes = change ∷ (record_of areas area).changes })

-- the areas, the device calls, the number of bytes that reads have returned, and how many calls found no memory
pub record MemoryValue : Type 0 where
  pub areas : Areas
  pub calls : ListedCallsValue
  pub bytes_read : ℕ
  pub starved : ℕ

-- an area with these synced bytes
abbrev pub fresh : List ℕ → AreaRecordValue
fresh bytes = record { first = bytes; changes = [] }

-- a disk with these synced contents and listed calls, which has made no call
abbrev pub fresh_disk : List ℕ → List ℕ → List ℕ → List ℕ → MemoryValue
fresh_disk journal sealed mirror failing = record {
  areas = record { journal = fresh journal; sealed = fresh sealed; mirror = fresh mirror };
  calls = record { failing = failing; made = 0; faults = 0 };
  bytes_read = 0;
  starved = 0;
}

-- A crash at a moment that has begun may leave this image. At the last moment it may be an image of now.
abbrev pub MayLeaveBy : AreaRecordValue → ℕ → ℕ → List ℕ → Type 0
MayLeaveBy area clock moment image =
    (moment ≤ clock)
    × (MayLeaveAt area.first area.changes moment image ⊎ ((moment ≡ clock) × MayLeave area.first area.changes image))

abbrev pub state_of : MemoryValue → DiskState
state_of m = record {
  content = λ a. content_of (record_of m.areas a).first (record_of m.areas a).changes;
  clock = m.calls.made;
  faults = m.calls.faults;
  bytes_read = m.bytes_read;
  image_at = λ a. MayLeaveBy (record_of m.areas a) m.calls.made;
  image_now = λ a. MayLeave (record_of m.areas a).first (record_of m.areas a).changes;
}

-- the next device call is listed to fail
abbrev pub FailsNext : MemoryValue → Type 0
FailsNext m = Contains m.calls.failing (counted m.calls.made)

-- the disk with these areas after a call that worked
abbrev pub worked : MemoryValue → Areas → MemoryValue
worked m areas = record m { areas = areas; calls = record m.calls { made = counted m.calls.made } }

-- the disk with these areas after a call that failed
abbrev pub failed : MemoryValue → Areas → MemoryValue
failed m areas = record m {
  areas = areas;
  calls = record m.calls { made = counted m.calls.made; faults = counted m.calls.faults };
}

-- the disk after a call that found no memory
abbrev pub starving : MemoryValue → MemoryValue
starving m = record m { starved = counted m.starved }

-- the clock has counted each change, and the counters are numbers of 64 bits
pub record KeepsCounts (areas : Areas) (calls : ListedCallsValue) : Type 0 where
  pub counts : (a : Area) → UpTo calls.made (record_of areas a).changes
  pub made : calls.made < 2 ^ 64
  pub faults : calls.faults < 2 ^ 64

-- the rules of the areas' records, and of the counters
pub record IsRecordedDisk (m : MemoryValue) : Type 0 where
  pub counts : KeepsCounts m.areas m.calls
  pub journal : IsRecorded m.areas.journal.first m.areas.journal.changes
  pub sealed : IsRecorded m.areas.sealed.first m.areas.sealed.changes
  pub mirror : IsRecorded m.areas.mirror.first m.areas.mirror.changes
