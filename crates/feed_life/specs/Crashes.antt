-- The disk that a crash leaves of a life's disk.
use Rattle.std.specs.Prelude.{◌≡◌, ◌⊎◌, ℕ, ◌+◌, ◌<◌, ◌≤◌, List}
use Rattle.atom_values.specs.Counts.{counter_limit}
use Rattle.feed_disk.specs.Image.{crashed_disk}
use Rattle.feed_disk.specs.Memory.{MemoryValue, state_of}
use Rattle.feed_disk.specs.declared.area.Area.{Area}
use Rattle.feed_disk.specs.declared.choice.Choice.{Choice}
use Rattle.feed_journal.specs.Records.{records}
use Rattle.feed_life.specs.declared.event.Stop.{Stop}

-- the number of device calls that were made
abbrev pub clock_of : MemoryValue → ℕ
clock_of disk = (state_of disk).clock

-- each area has the payloads that it had before
abbrev pub HasPayloadsOf : MemoryValue → MemoryValue → Type 0
HasPayloadsOf before after =
    (a : Area) → records ((state_of after).content a) ≡ records ((state_of before).content a)

-- The image after the last device call that was made, by a choice. It is the one within a further call that writes
-- nothing.
abbrev pub IsImageAfter : MemoryValue → Choice → MemoryValue → Type 0
IsImageAfter disk choice left = left ≡ crashed_disk disk (clock_of disk + 1) choice

-- The image that a stop makes of a disk, whose device calls are counted from a moment on: the image within the stop's
-- call by the stop's choice, or the one after the last call if fewer were made.
pub record IsImageBy (stop : Stop) (begun : ℕ) (ran left : MemoryValue) : Type 0 where
  pub within : begun + stop.call ≤ clock_of ran → left ≡ crashed_disk ran (begun + stop.call) stop.choice
  pub past : clock_of ran < begun + stop.call → IsImageAfter ran stop.choice left

-- a crash by a stop before the first device call after the load of what is on a disk
pub record IsCutBefore (stop : Stop) (disk left : MemoryValue) : Type 0 where
  pub loaded : MemoryValue
  pub same : HasPayloadsOf disk loaded
  pub image : IsImageAfter loaded stop.choice left

-- a crash by a stop of the device calls after the load of what is on a disk, which led to the disk `ran`
pub record IsCutWithin (stop : Stop) (disk ran left : MemoryValue) : Type 0 where
  pub loaded : MemoryValue
  pub same : HasPayloadsOf disk loaded
  pub later : clock_of loaded ≤ clock_of ran
  pub image : IsImageBy stop (clock_of loaded) ran left

-- The disk that a crash leaves: each area has one of these images, and is synced.
pub record IsCrash (images : Area → List ℕ → Type 0) (left : MemoryValue) : Type 0 where
  pub among : (a : Area) → images a ((state_of left).content a)
  pub synced : (a : Area) (i : List ℕ) → (state_of left).image_now a i → i ≡ (state_of left).content a

-- a crash within this call of those since a moment, which was made
pub record IsCrashAt (begun call : ℕ) (disk left : MemoryValue) : Type 0 where
  pub moment : ℕ
  pub at : moment ≡ begun + call
  pub after : begun < moment
  pub made : moment ≤ (state_of disk).clock
  pub short : (state_of disk).clock < counter_limit
  pub crash : IsCrash (λ a. (state_of disk).image_at a moment) left

-- a crash within this call of those since a moment, or after the last one if fewer were made
abbrev pub IsCrashFrom : ℕ → ℕ → MemoryValue → MemoryValue → Type 0
IsCrashFrom begun call disk left =
    (((state_of disk).clock < begun + call) × IsCrash (state_of disk).image_now left)
    ⊎ IsCrashAt begun call disk left
