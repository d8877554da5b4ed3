-- A commit: the store after it, what a crash leaves during it, and its two appends.
use Rattle.std.specs.Prelude.{◌≡◌, ℕ, List, [], ◌∷◌, ◌++◌, length, Option, Some, None, false}
use Rattle.feed_disk.specs.Disk.{DiskState}
use Rattle.feed_disk.specs.Moments.{AlwaysLeaves}
use Rattle.feed_disk.specs.declared.area.Area.TheVariants.{Sealed}
use Rattle.feed_journal.specs.Log.{MakesCalls}
use Rattle.feed_journal.specs.Records.{HasFirst, records, IsWhole}
use Rattle.feed_recovery.specs.Documents.{sealed_count}
use Rattle.feed_recovery.specs.Opening.{AreSeals, IsSealCount}
use Rattle.feed_recovery.specs.Settled.{AlwaysLeavesBoth, OpensPast}
use Rattle.feed_recovery.specs.Store.{StoreValue, is_spent, seal_count}
use Rattle.member_rules.specs.Head.{HeadValue}
use Rattle.member_rules.specs.declared.operation.Op.{Op}

-- the history has the operation last, and the store can go on
pub record HasCommitted (operation : Op) (before after : StoreValue) : Type 0 where
  pub history : after.history ≡ before.history ++ operation ∷ []
  pub unspent : is_spent after ≡ false
  -- each window that was full has its seal now, so the operation sealed it
  pub sealed : seal_count after ≡ sealed_count after

-- During the commit of an operation, a crash leaves the history before or with the operation, and each seal as it was.
pub record LeavesCommit (operation : Op) (s t : DiskState) (before : StoreValue) : Type 0 where
  pub moments : AlwaysLeavesBoth s t
      (OpensPast before.head (before.history ++ operation ∷ []) (length before.history))
  pub kept : AlwaysLeaves s t Sealed (HasFirst (records (s.content Sealed)))

-- An image of the sealed area while a seal is appended. It is whole, its payloads are seals of the history, as many as
-- there may be, and the first are those that were there before.
pub record IsSealing (head : HeadValue) (history : List Op) (before : List (List ℕ)) (image : List ℕ) : Type 0 where
  pub whole : IsWhole image
  pub are_seals : AreSeals head history (records image)
  pub count : IsSealCount head history (length (records image))
  pub kept : HasFirst before image

-- the device calls of the append of a seal, or of none, on the disk's clock and on the log's counter
abbrev pub MakesSealCalls : Option (List ℕ) → DiskState → DiskState → ℕ → ℕ → Type 0
MakesSealCalls None s t before after = (t.clock ≡ s.clock) × (after ≡ before)
MakesSealCalls (Some seal) s t before after = MakesCalls s t before after 4
