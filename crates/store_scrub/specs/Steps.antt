-- The steps of the second reading of a journal, which appends the seals that are missing.
use Rattle.std.specs.Prelude.{◌≡◌, ◌⊎◌, ℕ, ◌+◌, ◌<◌, ◌≤◌, max, List, [], ◌∷◌, ◌++◌, length, take}
use Rattle.archive_sealer.specs.Window.{IsFull, IsOfFeed, WindowValue}
use Rattle.atom_writer.specs.Pieced.{IsNoText}
use Rattle.feed_disk.specs.Disk.{DiskState}
use Rattle.feed_disk.specs.Moments.{AlwaysLeaves, LeavesAlone, NowOnly}
use Rattle.feed_disk.specs.declared.area.Area.TheVariants.{Journal, Sealed}
use Rattle.feed_journal.specs.Limits.{header_length}
use Rattle.feed_journal.specs.Log.{IsListed, IsLog, KeepsAtRest, LogValue}
use Rattle.feed_journal.specs.Reading.{ReadingValue}
use Rattle.feed_journal.specs.Records.{records, size_of, Begins, HasFirst}
use Rattle.feed_recovery.specs.Loading.{IsReadable, IsReader}
use Rattle.feed_recovery.specs.Opening.{IsJournal, seal_of}
use Rattle.feed_recovery.specs.Stored.{seals_of}
use Rattle.member_rules.specs.Coding.{operations}
use Rattle.member_rules.specs.Head.{HeadValue, IsHead}
use Rattle.member_rules.specs.History.{IsLawful}
use Rattle.member_rules.specs.Windows.{windows_of}
use Rattle.member_rules.specs.declared.operation.Op.{Op}
use Rattle.store_scrub.specs.Making.{HasSeals, IsNoHistory, StopsWithoutRoom}
use Rattle.store_scrub.specs.Repair.{Fit}
use Rattle.store_scrub.specs.declared.fault.RepairFault.{RepairFault}
use Rattle.store_scrub.specs.declared.fault.RepairFault.TheVariants.{NotInit, BadRecord, Full, DiskFault, NoMemory}

-- if a journal with these payloads is a history's, it has this head, and these operations first
abbrev pub IsBegun : List (List ℕ) → HeadValue → List Op → Type 0
IsBegun journal head begun =
    (other : HeadValue) (history : List Op) → IsJournal journal other history
    → (other ≡ head) × (begun ≡ take (length begun) history)

-- the log of the seals, of which no call failed
pub record IsAppendable (observable : Type 0) (disk : DiskState) (log : LogValue) : Type 0 where
  pub readable : IsReadable observable disk Sealed log
  pub listed : observable → IsListed log (disk.content Sealed)

-- the head and the operations of the window were read, and seals can be appended
pub record IsMaking (observable : Type 0) (disk : DiskState) (reading : ReadingValue) (log : LogValue)
    (head : HeadValue) (window : WindowValue) : Type 0 where
  pub is_head : IsHead head
  pub of_feed : IsOfFeed window head
  pub reader : IsReader observable disk reading
  pub rules : IsLog reading.log
  pub count : length reading.log.extents ≡ length window.history + 1
  pub seals : IsAppendable observable disk log
  pub begun : observable → IsBegun (records (disk.content Journal)) head window.history

-- the seal of the last window is the next one
abbrev pub IsNext : HeadValue → List Op → ℕ → Type 0
IsNext head history seals = IsFull head history × (seals ≡ (windows_of head history).sealed)

-- the seal of the last window, which is full
abbrev pub last_seal : HeadValue → List Op → List ℕ
last_seal head history = seal_of head history ((windows_of head history).sealed + 1)

-- the payload was appended to the sealed area, which fits into the capacity
pub record HasAppended (before after : DiskState) (payload : List ℕ) (capacity : ℕ) : Type 0 where
  pub list : records (after.content Sealed) ≡ records (before.content Sealed) ++ payload ∷ []
  pub fits : size_of (records (after.content Sealed)) ≤ capacity
  pub rests : KeepsAtRest before after Sealed

-- if the seal of the last window is the next one, it was appended, and nothing was appended if it isn't
abbrev pub HasSealed : DiskState → DiskState → HeadValue → List Op → Type 0
HasSealed before after head history =
    ((¬ IsNext head history (length (records (before.content Sealed)))) × LeavesAlone before after Sealed)
    ⊎ (IsNext head history (length (records (before.content Sealed)))
    × HasAppended before after (last_seal head history) head.capacity)

-- the payloads stay first, if each image began with them and a closed gate
abbrev pub KeepsRecords : DiskState → DiskState → Type 0
KeepsRecords before after =
    NowOnly before Sealed (Begins (records (before.content Sealed)))
    → AlwaysLeaves before after Sealed (HasFirst (records (before.content Sealed)))

-- one more operation was read, and the seal before it was appended
pub record HasMadeOne (observable : Type 0) (before after : DiskState) (reader reader' : ReadingValue)
    (head : HeadValue) (begun begun' : List Op) : Type 0 where
  pub operation : Op
  pub history : begun' ≡ begun ++ operation ∷ []
  pub longer : reader.log.size < reader'.log.size
  pub sealed : observable → HasSealed before after head begun

-- no operation was left
pub record HasMadeLast (observable : Type 0) (before after : DiskState) (history : List Op) : Type 0 where
  pub all : observable → length (records (before.content Journal)) ≡ length history + 1
  pub alone : LeavesAlone before after Sealed

-- a payload doesn't fit into the capacity, and nothing was appended
pub record LacksRoom (before after : DiskState) (payload : List ℕ) (size needed capacity most : ℕ) : Type 0 where
  pub size_is : size ≡ size_of (records (before.content Sealed))
  pub needed_is : needed ≡ length payload + header_length
  pub capacity_is : capacity ≡ most
  pub past : capacity < size + needed
  pub same : after.content Sealed ≡ before.content Sealed

-- the seal of the last window is the next one, and doesn't fit
pub record LacksPlace (before after : DiskState) (head : HeadValue) (history : List Op) (size needed capacity : ℕ)
    : Type 0 where
  pub next : IsNext head history (length (records (before.content Sealed)))
  pub lacks : LacksRoom before after (last_seal head history) size needed capacity head.capacity

-- why a payload of the journal isn't read or taken: the journal isn't a history's, a call failed, or memory ran out
abbrev pub IsReadFault : DiskState → RepairFault → Type 0
IsReadFault disk NotInit = IsNoHistory disk
IsReadFault disk (BadRecord area index at) = IsNoHistory disk
IsReadFault disk (Full size needed capacity) = ⊥
IsReadFault disk DiskFault = Unit {0}
IsReadFault disk NoMemory = Unit {0}

-- why the payload isn't taken as an operation
abbrev pub IsTakeFault : List ℕ → RepairFault → Type 0
IsTakeFault payload NotInit = ⊥
IsTakeFault payload (BadRecord area index at) = IsNoText operations payload
IsTakeFault payload (Full size needed capacity) = ⊥
IsTakeFault payload DiskFault = ⊥
IsTakeFault payload NoMemory = Unit {0}

-- why the seal of the last window isn't made: the archives of a lawful history are short enough
abbrev pub IsSealFault : HeadValue → List Op → RepairFault → Type 0
IsSealFault head history NotInit = ⊥
IsSealFault head history (BadRecord area index at) = ¬ IsLawful head history
IsSealFault head history (Full size needed capacity) = ⊥
IsSealFault head history DiskFault = ⊥
IsSealFault head history NoMemory = Unit {0}

-- why the payload isn't appended
abbrev pub IsAppendFault : DiskState → DiskState → List ℕ → ℕ → RepairFault → Type 0
IsAppendFault before after payload most NotInit = ⊥
IsAppendFault before after payload most (BadRecord area index at) = ⊥
IsAppendFault before after payload most (Full size needed capacity) =
    LacksRoom before after payload size needed capacity most
IsAppendFault before after payload most DiskFault = Unit {0}
IsAppendFault before after payload most NoMemory = Unit {0}

-- why the seal of the last window isn't appended
abbrev pub IsWindowFault : DiskState → DiskState → HeadValue → List Op → RepairFault → Type 0
IsWindowFault before after head history NotInit = ⊥
IsWindowFault before after head history (BadRecord area index at) = ¬ IsLawful head history
IsWindowFault before after head history (Full size needed capacity) =
    LacksPlace before after head history size needed capacity
IsWindowFault before after head history DiskFault = Unit {0}
IsWindowFault before after head history NoMemory = Unit {0}

-- why a step fails; the seal that doesn't fit comes before an operation
abbrev pub IsStepFault : DiskState → DiskState → HeadValue → List Op → RepairFault → Type 0
IsStepFault before after head history NotInit = IsNoHistory before
IsStepFault before after head history (BadRecord area index at) = IsNoHistory before
IsStepFault before after head history (Full size needed capacity) =
    LacksPlace before after head history size needed capacity
    × (length history + 1 < length (records (before.content Journal)))
IsStepFault before after head history DiskFault = Unit {0}
IsStepFault before after head history NoMemory = Unit {0}

-- why the seals aren't made
abbrev pub IsMakingFault : DiskState → DiskState → RepairFault → Type 0
IsMakingFault before after NotInit = IsNoHistory before
IsMakingFault before after (BadRecord area index at) = IsNoHistory before
IsMakingFault before after (Full size needed capacity) = StopsWithoutRoom before after size needed capacity
IsMakingFault before after DiskFault = Unit {0}
IsMakingFault before after NoMemory = Unit {0}

-- the seals that are kept, and those up to this number, were appended so far
pub record HasMadeTo (before after : DiskState) (head : HeadValue) (history : List Op) (kept most : ℕ) : Type 0 where
  pub seals : records (after.content Sealed) ≡ seals_of head history (max kept most)
  pub fit : Fit head history kept most
  pub rests : NowOnly before Sealed (Begins (seals_of head history kept))
      → NowOnly after Sealed (Begins (seals_of head history (max kept most)))

-- each window that the first operations sealed has its seal
abbrev pub MakesTo : DiskState → DiskState → HeadValue → List Op → Type 0
MakesTo before after head begun =
    (other : HeadValue) (history : List Op) (kept : ℕ) → HasSeals before other history kept
    → HasMadeTo before after other history kept (windows_of head begun).sealed
