-- The image of one area that a crash within a call leaves, by a `Choice`.
use Rattle.std.specs.Prelude.{ℕ, ◌+◌, ◌-◌, zero, suc, min, Bool, true, false, ◌||◌, nat_lt, nat_le, if◌then◌else◌}
use Rattle.std.specs.Prelude.{count_by, List, [], ◌∷◌, length, take}
use Rattle.feed_disk.specs.AreaRecord.{synced_of, newest_of, is_written}
use Rattle.feed_disk.specs.declared.change.Change.{Change}
use Rattle.feed_disk.specs.declared.change.Change.TheVariants.{Write, FailedWrite, Sync}
use Rattle.feed_disk.specs.declared.choice.Choice.{Choice}
use Rattle.feed_disk.specs.declared.choice.Choice.TheVariants.{Old, New, Fill, Given}

-- A crash within this call comes after the change, or within it. A sync does nothing before its end.
abbrev pub counts_by : ℕ → Change → Bool
counts_by call (Write number at bytes) = nat_le number call
counts_by call (FailedWrite number at bytes) = nat_le number call
counts_by call (Sync number) = nat_lt number call

-- the changes that count at a crash within this call, the newest first
abbrev pub until : ℕ → List Change → List Change
until call [] = []
until call (change ∷ older) = if counts_by call change then change ∷ older else until call older

-- the byte at this offset is uncertain: a write since the last sync has it in its range, or it is past the synced end
abbrev pub is_uncertain : List ℕ → List Change → ℕ → Bool
is_uncertain first changes offset = is_written changes offset || nat_le (length (synced_of first changes)) offset

-- the test at each of n offsets from one on
abbrev pub marked : (ℕ → Bool) → ℕ → ℕ → List Bool
marked test offset zero = []
marked test offset (suc n) = test offset ∷ marked test (offset + 1) n

-- the bytes with `fill` at each marked offset
abbrev pub filled : List Bool → ℕ → List ℕ → List ℕ
filled [] fill bytes = bytes
filled (mark ∷ marks) fill [] = []
filled (false ∷ marks) fill (byte ∷ bytes) = byte ∷ filled marks fill bytes
filled (true ∷ marks) fill (byte ∷ bytes) = fill ∷ filled marks fill bytes

-- the bytes with the given ones at the marked offsets, in order; after the last given one they stay
abbrev pub overlaid : List Bool → List ℕ → List ℕ → List ℕ
overlaid [] given bytes = bytes
overlaid (mark ∷ marks) given [] = []
overlaid (false ∷ marks) given (byte ∷ bytes) = byte ∷ overlaid marks given bytes
overlaid (true ∷ marks) [] (byte ∷ bytes) = byte ∷ overlaid marks [] bytes
overlaid (true ∷ marks) (one ∷ given) (byte ∷ bytes) = one ∷ overlaid marks given bytes

-- the size of the area with `size` bytes past the synced end, or with as many as it may have
abbrev pub grown : List ℕ → List Change → ℕ → ℕ
grown first changes size =
    length (synced_of first changes) + min size (length (newest_of first changes) - length (synced_of first changes))

-- which of the first `size` bytes of the area are uncertain
abbrev pub marks_of : List ℕ → List Change → ℕ → List Bool
marks_of first changes size = marked (is_uncertain first changes) 0 size

-- the image by the choice, of an area that began with `first` and had these changes
abbrev pub image_of : List ℕ → List Change → Choice → List ℕ
image_of first changes Old = synced_of first changes
image_of first changes New = newest_of first changes
image_of first changes (Fill fill) =
    filled (marks_of first changes (length (newest_of first changes))) fill (newest_of first changes)
image_of first changes (Given size bytes) =
    let end = grown first changes size in
    overlaid (marks_of first changes end) bytes (take end (newest_of first changes))

-- the number of given bytes that the area takes
abbrev pub uses : List ℕ → List Change → Choice → ℕ
uses first changes Old = 0
uses first changes New = 0
uses first changes (Fill fill) = 0
uses first changes (Given size bytes) = count_by (λ mark. mark) (marks_of first changes (grown first changes size))

-- the choice with these bytes as the given ones
abbrev pub giving : Choice → List ℕ → Choice
giving Old given = Old
giving New given = New
giving (Fill fill) given = Fill fill
giving (Given size bytes) given = Given size given
