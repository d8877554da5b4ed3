-- A store as contracts see it.
use Rattle.std.specs.Prelude.{◌≡◌, ℕ, ◌+◌, ◌*◌, ◌<◌, min, Bool, true, ◌||◌, List, length, Option, MatchOption}
use Rattle.atom_values.specs.Counts.{counter_limit}
use Rattle.feed_disk.specs.Disk.{DiskState}
use Rattle.feed_disk.specs.declared.area.Area.TheVariants.{Journal, Sealed}
use Rattle.feed_journal.specs.Log.{LogValue, IsListed}
use Rattle.feed_recovery.specs.Opening.{IsSealCount, Opens}
use Rattle.atom_writer.specs.Pieces.{text}
use Rattle.member_rules.specs.Documents.{subscription}
use Rattle.member_rules.specs.Head.{HeadValue, IsHead}
use Rattle.member_rules.specs.History.{IsLawful}
use Rattle.member_rules.specs.Table.{Table, IsTableOf}
use Rattle.member_rules.specs.declared.operation.Op.{Op}

-- its head, its history, the table of the members, the logs of its two areas, and the number of operations that the
-- history can take without memory
pub record StoreValue : Type 0 where
  pub head : HeadValue
  pub history : List Op
  pub members : Table
  pub journal : LogValue
  pub seals : LogValue
  pub spare : ℕ

-- the number of seals
abbrev pub seal_count : StoreValue → ℕ
seal_count store = length store.seals.extents

-- the number of device calls of its two logs, which stays at the greatest u64
abbrev pub call_count : StoreValue → ℕ
call_count store = min (store.journal.calls + store.seals.calls) counter_limit

-- a device call failed, so the store has to be loaded again
abbrev pub is_spent : StoreValue → Bool
is_spent store = store.journal.spent || store.seals.spent

-- the fewest bytes by which an operation makes the journal longer: those of a setting, and the header of its frame
abbrev pub least_frame : ℕ
least_frame = 19

-- The rules that a store keeps. By `long` a journal within the limit of an area has fewer payloads than a log may have,
-- so a commit needs no condition on their number.
pub record KeepsStore (store : StoreValue) : Type 0 where
  pub head : IsHead store.head
  pub lawful : IsLawful store.head store.history
  pub members : IsTableOf store.members store.head.created store.history
  pub journal_area : store.journal.area ≡ Journal
  pub sealed_area : store.seals.area ≡ Sealed
  pub records : length store.journal.extents ≡ length store.history + 1
  pub seals : IsSealCount store.head store.history (seal_count store)
  pub long : least_frame * length store.history < store.journal.size

-- the text that a store keeps, if any, is that of its subscription document
abbrev pub KeepsNewest : StoreValue → Option (List ℕ) → Type 0
KeepsNewest store newest =
    MatchOption newest (Unit {0}) (λ written. written ≡ text (subscription store.head store.history))

-- the store stands for the content of the disk: the content opens to it, and its logs list the content
pub record StandsFor (disk : DiskState) (store : StoreValue) : Type 0 where
  pub opens : Opens (disk.content Journal) (disk.content Sealed) store.head store.history (seal_count store)
  pub journal : IsListed store.journal (disk.content Journal)
  pub seals : IsListed store.seals (disk.content Sealed)

-- A payload of the journal was read. Of the store only the count of calls differs, unless the device call failed: then
-- the store is spent too.
pub record HasReadOperation (observable : Type 0) (disk : DiskState) (before after : StoreValue) (failed : Type 0)
    : Type 0 where
  pub same : ¬ failed → after ≡ record before { journal = record before.journal { calls = after.journal.calls } }
  pub spent : failed
      → after ≡ record before { journal = record before.journal { calls = after.journal.calls; spent = true } }
  pub stands : ¬ failed → observable → StandsFor disk after

-- the same for a seal
pub record HasReadSeal (observable : Type 0) (disk : DiskState) (before after : StoreValue) (failed : Type 0)
    : Type 0 where
  pub same : ¬ failed → after ≡ record before { seals = record before.seals { calls = after.seals.calls } }
  pub spent : failed
      → after ≡ record before { seals = record before.seals { calls = after.seals.calls; spent = true } }
  pub stands : ¬ failed → observable → StandsFor disk after
