-- What the second reading of the journal appends to the sealed area.
use Rattle.std.specs.Prelude.{◌≡◌, ℕ, ◌+◌, ◌<◌, ◌≤◌, max, List, length}
use Rattle.feed_disk.specs.Disk.{DiskState}
use Rattle.feed_disk.specs.Moments.{AlwaysLeaves, NowOnly}
use Rattle.feed_disk.specs.declared.area.Area.TheVariants.{Journal, Sealed}
use Rattle.feed_journal.specs.Limits.{header_length}
use Rattle.feed_journal.specs.Records.{records, size_of, Begins, HasFirst}
use Rattle.feed_recovery.specs.Opening.{IsJournal, seal_of}
use Rattle.feed_recovery.specs.Stored.{seals_of}
use Rattle.member_rules.specs.Head.{HeadValue}
use Rattle.member_rules.specs.Windows.{windows_of}
use Rattle.member_rules.specs.declared.operation.Op.{Op}
use Rattle.store_scrub.specs.Repair.{Fit}

-- the journal is a history's, and the sealed area has this number of its seals
pub record HasSeals (disk : DiskState) (head : HeadValue) (history : List Op) (kept : ℕ) : Type 0 where
  pub is_journal : IsJournal (records (disk.content Journal)) head history
  pub archived : kept ≤ (windows_of head history).full
  pub seals : records (disk.content Sealed) ≡ seals_of head history kept

-- the seals that are kept, and those of the sealed archives
abbrev pub all_seals : HeadValue → List Op → ℕ → List (List ℕ)
all_seals head history kept = seals_of head history (max kept (windows_of head history).sealed)

-- every missing seal was appended
pub record HasMade (before after : DiskState) (head : HeadValue) (history : List Op) (kept : ℕ) : Type 0 where
  pub seals : records (after.content Sealed) ≡ all_seals head history kept
  pub fit : Fit head history kept (windows_of head history).sealed
  pub rests : NowOnly before Sealed (Begins (seals_of head history kept))
      → NowOnly after Sealed (Begins (all_seals head history kept))

abbrev pub MakesAll : DiskState → DiskState → Type 0
MakesAll before after =
    (head : HeadValue) (history : List Op) (kept : ℕ) → HasSeals before head history kept
    → HasMade before after head history kept

-- after this number of seals the next one has no room, and the sealed area has those before it
pub record HasNoRoom (after : DiskState) (head : HeadValue) (history : List Op) (kept size needed capacity : ℕ)
    : Type 0 where
  pub number : ℕ
  pub from : kept ≤ number
  pub missing : number < (windows_of head history).sealed
  pub fit : Fit head history kept number
  pub size_is : size ≡ size_of (seals_of head history number)
  pub needed_is : needed ≡ length (seal_of head history (number + 1)) + header_length
  pub capacity_is : capacity ≡ head.capacity
  pub past : capacity < size + needed
  pub stays : records (after.content Sealed) ≡ seals_of head history number

abbrev pub StopsWithoutRoom : DiskState → DiskState → ℕ → ℕ → ℕ → Type 0
StopsWithoutRoom before after size needed capacity =
    (head : HeadValue) (history : List Op) (kept : ℕ) → HasSeals before head history kept
    → HasNoRoom after head history kept size needed capacity

-- the journal isn't a history's
abbrev pub IsNoHistory : DiskState → Type 0
IsNoHistory disk = (head : HeadValue) (history : List Op) → ¬ IsJournal (records (disk.content Journal)) head history

-- If each image began with the seals that are kept and a closed gate, each image has them first, at each moment.
abbrev pub KeepsSeals : DiskState → DiskState → Type 0
KeepsSeals before after =
    (head : HeadValue) (history : List Op) (kept : ℕ) → HasSeals before head history kept
    → NowOnly before Sealed (Begins (seals_of head history kept))
    → AlwaysLeaves before after Sealed (HasFirst (seals_of head history kept))
