-- A log as contracts see it.
use Rattle.std.specs.Prelude.{◌≡◌, ◌⊎◌, ℕ, ◌+◌, ◌-◌, ◌<◌, ◌≤◌, Bool, true, List, [], ◌∷◌, ◌++◌, length, map, take}
use Rattle.std.specs.Prelude.{drop, Result, OnOk}
use Rattle.atom_values.specs.Counts.{HasCause}
use Rattle.feed_disk.specs.Disk.{DiskState, written}
use Rattle.feed_disk.specs.Moments.{AlwaysLeaves, NowOnly}
use Rattle.feed_disk.specs.Raised.{raised}
use Rattle.feed_disk.specs.declared.area.Area.{Area}
use Rattle.feed_journal.specs.Limits.{area_limit, payload_limit, payload_count_limit, header_length, closed_gate}
use Rattle.feed_journal.specs.Records.{records, frames, size_of, Begins, HasFirst, IsClosed, IsStep, IsWhole, StartsWith}
use Rattle.feed_journal.specs.declared.extent.Extent.{Extent}

-- its area, its payloads' extents, its bytes up to the closed gate and with it, its device calls, whether it is spent,
-- whether the area is whole, and the number of extents that it can add without memory
pub record LogValue : Type 0 where
  pub area : Area
  pub extents : List Extent
  pub size : ℕ
  pub calls : ℕ
  pub spent : Bool
  pub whole : Bool
  pub spare : ℕ

-- the payloads of these extents
abbrev pub payloads_at : List Extent → List ℕ → List (List ℕ)
payloads_at extents bytes = map (λ extent. take extent.length (drop extent.offset bytes)) extents

abbrev pub payload_lengths : List Extent → List ℕ
payload_lengths extents = map (λ extent. extent.length) extents

-- the extents are those of adjacent frames from this offset on, after which the last byte is a gate
abbrev pub Follow : ℕ → List Extent → ℕ → Type 0
Follow from [] size = size ≡ from + 1
Follow from (extent ∷ extents) size =
    (extent.offset ≡ from + header_length)
    × (extent.length ≤ payload_limit)
    × Follow (from + extent.length + header_length) extents size

-- the rule of `Log`
pub record KeepsLog (extents : List Extent) (size : ℕ) : Type 0 where
  pub follow : Follow 0 extents size
  pub few : length extents ≤ payload_count_limit

abbrev pub IsLog : LogValue → Type 0
IsLog log = KeepsLog log.extents log.size

-- the log's list is the payloads of the content, which has all bytes up to the closed gate and with it
pub record IsListed (log : LogValue) (content : List ℕ) : Type 0 where
  pub list : payloads_at log.extents content ≡ records content
  pub long : log.size ≤ length content

-- the log's list is the payloads of the content, and its size is that of their frames and a gate
pub record IsLooked (log : LogValue) (content : List ℕ) : Type 0 where
  pub list : payloads_at log.extents content ≡ records content
  pub size : log.size ≡ size_of (records content)

-- the log takes one more payload of this length without memory, and within the limits
pub record HasRoomFor (count : ℕ) (log : LogValue) : Type 0 where
  pub reserved : 0 < log.spare
  pub few : length log.extents < payload_count_limit
  pub fits : log.size + (count + header_length) ≤ area_limit

-- the log after a payload of this length was appended
pub record IsAppended (count : ℕ) (before after : LogValue) : Type 0 where
  pub log : after ≡ record before {
    extents = before.extents ++ record { offset = before.size + 4; length = count } ∷ [];
    size = before.size + count + header_length;
    calls = after.calls;
    whole = true;
    spare = after.spare;
  }
  pub spare : before.spare ≤ after.spare + 1

-- the log after all but its first payloads were cut off
pub record IsCut (count : ℕ) (before after : LogValue) : Type 0 where
  pub log : after ≡ record before {
    extents = take count before.extents;
    size = after.size;
    calls = after.calls;
    whole = true;
    spare = after.spare;
  }
  pub spare : before.spare ≤ after.spare

-- The log's list, which is that of the content, is these payloads. Behind their frames a closed gate was written.
pub record ListsOnly (payloads : List (List ℕ)) (log : LogValue) (before after : List ℕ) : Type 0 where
  pub content : after ≡ written before (size_of payloads - 1) (closed_gate ∷ [])
  pub closed : IsClosed after
  pub list : records after ≡ payloads
  pub listed : IsListed log after
  pub size : log.size ≡ size_of payloads

-- If each image before began with these payloads, so does each image of a moment from s on, and each image of now: with
-- their frames, and as they are read.
pub record KeepsFirst (s t : DiskState) (area : Area) (payloads : List (List ℕ)) : Type 0 where
  pub starts : NowOnly s area (StartsWith payloads) → AlwaysLeaves s t area (StartsWith payloads)
  pub first : NowOnly s area (HasFirst payloads) → AlwaysLeaves s t area (HasFirst payloads)

-- the log's list, which is that of the content, has the payload last
pub record ListsPayload (payload : List ℕ) (log : LogValue) (before after : List ℕ) : Type 0 where
  pub list : records after ≡ records before ++ payload ∷ []
  pub listed : IsListed log after
  pub size : log.size ≡ size_of (records after)

-- At each moment within an append, a crash leaves the list before or the list with the payload. Each image before began
-- with the list and a closed gate.
abbrev pub LeavesOneList : DiskState → DiskState → Area → List ℕ → Type 0
LeavesOneList s t area payload =
    let before = records (s.content area) in
    NowOnly s area (Begins before) → AlwaysLeaves s t area (IsStep before payload)

-- each image begins with the list and a closed gate, as each image before did
abbrev pub KeepsAtRest : DiskState → DiskState → Area → Type 0
KeepsAtRest s t area =
    NowOnly s area (Begins (records (s.content area))) → NowOnly t area (Begins (records (t.content area)))

-- all that was written is synced, so a crash leaves the content
abbrev pub IsSynced : DiskState → Area → Type 0
IsSynced s area = (i : List ℕ) → s.image_now area i → i ≡ s.content area

-- If the content before was synced and wasn't whole, each image of a moment from s on, and each image of now, has its
-- payloads.
abbrev pub KeepsAll : DiskState → DiskState → Area → Type 0
KeepsAll s t area =
    IsSynced s area → (IsWhole (s.content area) → ⊥)
    → AlwaysLeaves s t area (λ i. records i ≡ records (s.content area))

-- if the content before began with the frames of these payloads, each image begins with them and a closed gate
abbrev pub RestsAt : DiskState → DiskState → Area → List (List ℕ) → Type 0
RestsAt s t area payloads = StartsWith payloads (s.content area) → NowOnly t area (Begins payloads)

-- n device calls, on the disk's clock and on the log's counter
pub record MakesCalls (s t : DiskState) (before after n : ℕ) : Type 0 where
  pub clock : t.clock ≡ raised s.clock n
  pub calls : after ≡ raised before n

-- at most this many device calls
pub record MakesUpTo (s t : DiskState) (before after most : ℕ) : Type 0 where
  pub number : ℕ
  pub within : number ≤ most
  pub makes : MakesCalls s t before after number

-- n device calls, or at most n if one of them failed
pub record MakesOrFails {T E : Type 0} (s t : DiskState) (before after n : ℕ) (result : Result T E) : Type 0 where
  pub all : OnOk result (MakesCalls s t before after n)
  pub most : MakesUpTo s t before after n
  pub faults : HasCause s.faults t.faults result

-- any number of device calls
abbrev pub MakesSome : DiskState → DiskState → ℕ → ℕ → Type 0
MakesSome s t before after =
    ((t.clock ≡ s.clock) × (after ≡ before)) ⊎ ((number : ℕ) × MakesCalls s t before after number)

-- the payloads of these extents are those of the content, whose frames end at this offset
pub record IsScanned (extents : List Extent) (end : ℕ) (content : List ℕ) : Type 0 where
  pub list : payloads_at extents content ≡ records content
  pub begins : content ≡ frames (records content) ++ drop end content
