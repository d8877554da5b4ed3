-- The record of one area of a disk in memory, and the images that a crash may leave by it.
use Rattle.std.specs.Prelude.{◌≡◌, ◌⊎◌, ⊤, ℕ, ◌+◌, ◌-◌, ◌^◌, ◌<◌, ◌≤◌, Bool, false, ◌&&◌, ◌||◌, nat_lt, nat_le}
use Rattle.std.specs.Prelude.{List, [], ◌∷◌, length, slice_index, Option, None, Some, Vec}
use Rattle.std.specs.declared.alloc.Global.{Global}
use Rattle.feed_disk.specs.Disk.{written}
use Rattle.feed_disk.specs.declared.change.Change.{Change}
use Rattle.feed_disk.specs.declared.change.Change.TheVariants.{Write, FailedWrite, Sync}

-- the content that the area began with, and its changes since, the newest first
pub record AreaRecordValue : Type 0 where
  pub first : List ℕ
  pub changes : List Change

-- the number of the device call that made the change
abbrev pub call_of : Change → ℕ
call_of (Write call at bytes) = call
call_of (FailedWrite call at bytes) = call
call_of (Sync call) = call

-- the bytes that a read gives: all that was written, without the writes that failed
abbrev pub content_of : List ℕ → List Change → List ℕ
content_of first [] = first
content_of first (Write call at bytes ∷ older) = written (content_of first older) at bytes
content_of first (FailedWrite call at bytes ∷ older) = content_of first older
content_of first (Sync call ∷ older) = content_of first older

-- the synced bytes: the content at the last sync
abbrev pub synced_of : List ℕ → List Change → List ℕ
synced_of first [] = first
synced_of first (Write call at bytes ∷ older) = synced_of first older
synced_of first (FailedWrite call at bytes ∷ older) = synced_of first older
synced_of first (Sync call ∷ older) = content_of first older

-- the new bytes: the synced ones after each write since the last sync, failed writes included
abbrev pub newest_of : List ℕ → List Change → List ℕ
newest_of first [] = first
newest_of first (Write call at bytes ∷ older) = written (newest_of first older) at bytes
newest_of first (FailedWrite call at bytes ∷ older) = written (newest_of first older) at bytes
newest_of first (Sync call ∷ older) = content_of first older

-- the offset is in the range of n bytes from `at`
abbrev pub is_within : ℕ → ℕ → ℕ → Bool
is_within offset at n = nat_le at offset && nat_lt offset (at + n)

-- a write since the last sync has this offset in its range
abbrev pub is_written : List Change → ℕ → Bool
is_written [] offset = false
is_written (Write call at bytes ∷ older) offset = is_within offset at (length bytes) || is_written older offset
is_written (FailedWrite call at bytes ∷ older) offset = is_within offset at (length bytes) || is_written older offset
is_written (Sync call ∷ older) offset = false

-- An image whose size lies between that of the synced bytes and this one. It has each synced byte that is certain.
pub record IsBetween (old : List ℕ) (size : ℕ) (is_uncertain : ℕ → Bool) (image : List ℕ) : Type 0 where
  pub no_shorter : length old ≤ length image
  pub no_longer : length image ≤ size
  pub certain : (offset : ℕ) → offset < length old → is_uncertain offset ≡ false
      → slice_index image offset ≡ slice_index old offset

-- A crash after these changes may leave this image. Each byte of a range that was written since the last sync, and each
-- byte past the end of the synced ones, may be anything. The size may be any from the synced one to the new one. All
-- other bytes stay.
abbrev pub MayLeave : List ℕ → List Change → List ℕ → Type 0
MayLeave first changes image =
    IsBetween (synced_of first changes) (length (newest_of first changes)) (is_written changes) image

-- A crash within the newest of these changes may leave this image. Within a sync nothing is more certain than before.
abbrev pub MayLeaveWithin : List ℕ → List Change → List ℕ → Type 0
MayLeaveWithin first [] image = MayLeave first [] image
MayLeaveWithin first (Write call at bytes ∷ older) image = MayLeave first (Write call at bytes ∷ older) image
MayLeaveWithin first (FailedWrite call at bytes ∷ older) image =
    MayLeave first (FailedWrite call at bytes ∷ older) image
MayLeaveWithin first (Sync call ∷ older) image = MayLeave first older image

-- A crash at a moment may leave this image: after the newest change an image of now, at the newest change also an image
-- of within it, and until the newest change an image by the older changes.
abbrev pub MayLeaveAt : List ℕ → List Change → ℕ → List ℕ → Type 0
MayLeaveAt first [] moment image = MayLeave first [] image
MayLeaveAt first (change ∷ older) moment image =
    ((call_of change < moment) × MayLeave first (change ∷ older) image)
    ⊎ ((call_of change ≡ moment) × MayLeaveWithin first (change ∷ older) image)
    ⊎ ((moment ≤ call_of change) × MayLeaveAt first older moment image)

-- the newest of these changes was made by this call or an earlier one
abbrev pub UpTo : ℕ → List Change → Type 0
UpTo call [] = ⊤
UpTo call (change ∷ older) = call_of change ≤ call

-- A change of this number may follow these. It is later, unless the counter of calls is at its greatest value.
abbrev pub ComesAfter : ℕ → List Change → Type 0
ComesAfter call [] = ⊤
ComesAfter call (change ∷ older) = (call_of change ≤ call) × (call < 2 ^ 64 - 1 → call_of change < call)

-- each change follows the older ones, and each write begins in the content or at its end
abbrev pub IsRecorded : List ℕ → List Change → Type 0
IsRecorded first [] = ⊤
IsRecorded first (Write call at bytes ∷ older) =
    (at ≤ length (content_of first older)) × ComesAfter call older × IsRecorded first older
IsRecorded first (FailedWrite call at bytes ∷ older) =
    (at ≤ length (content_of first older)) × ComesAfter call older × IsRecorded first older
IsRecorded first (Sync call ∷ older) = ComesAfter call older × IsRecorded first older

-- the content, of which a copy is made at the first write
abbrev pub working_copy : Option (Vec ℕ Global) → List ℕ → List ℕ
working_copy None first = first
working_copy (Some copy) first = copy.items

-- the rule of `AreaRecord`
pub record IsAreaRecord (first : List ℕ) (copy : Option (Vec ℕ Global)) (changes : List Change) : Type 0 where
  pub content : working_copy copy first ≡ content_of first changes
  pub recorded : IsRecorded first changes
