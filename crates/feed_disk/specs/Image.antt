-- The disk that a crash within a call leaves, by a `Choice`.
use Rattle.std.specs.Prelude.{◌≡◌, ℕ, ◌+◌, ◌<◌, ◌≤◌, List, [], length, drop, All}
use Rattle.feed_disk.specs.ImageOf.{until, image_of, uses}
use Rattle.feed_disk.specs.Memory.{MemoryValue, record_of, fresh_disk}
use Rattle.feed_disk.specs.declared.area.Area.{Area}
use Rattle.feed_disk.specs.declared.area.Area.TheVariants.{Journal, Sealed, Mirror}
use Rattle.feed_disk.specs.declared.choice.Choice.{Choice}
use Rattle.feed_disk.specs.declared.choice.Choice.TheVariants.{Old, New, Fill, Given}

-- the choice without its first n given bytes
abbrev pub skipped : Choice → ℕ → Choice
skipped Old n = Old
skipped New n = New
skipped (Fill fill) n = Fill fill
skipped (Given size bytes) n = Given size (drop n bytes)

-- the number of given bytes that this area takes
abbrev pub used_by : MemoryValue → ℕ → Choice → Area → ℕ
used_by m call choice area = uses (record_of m.areas area).first (until call (record_of m.areas area).changes) choice

-- the number of given bytes that the areas before this one take
abbrev pub used_before : MemoryValue → ℕ → Choice → Area → ℕ
used_before m call choice Journal = 0
used_before m call choice Sealed = used_by m call choice Journal
used_before m call choice Mirror = used_by m call choice Journal + used_by m call choice Sealed

-- the image of an area of a disk
abbrev pub image_in : MemoryValue → ℕ → Choice → Area → List ℕ
image_in m call choice area =
    let changes = until call (record_of m.areas area).changes in
    image_of (record_of m.areas area).first changes (skipped choice (used_before m call choice area))

-- the disk after the crash: it has those images, all synced, and no listed call
abbrev pub crashed_disk : MemoryValue → ℕ → Choice → MemoryValue
crashed_disk m call choice =
    fresh_disk (image_in m call choice Journal) (image_in m call choice Sealed) (image_in m call choice Mirror) []

-- Some given bytes make this image of the area. If the image consists of bytes, so do they.
pub record IsReached (m : MemoryValue) (call : ℕ) (area : Area) (image : List ℕ) : Type 0 where
  pub size : ℕ
  pub bytes : List ℕ
  pub small : size ≤ length image
  pub are_bytes : All (λ byte. byte < 256) image → All (λ byte. byte < 256) bytes
  pub makes : image_in m call (Given size bytes) area ≡ image
