-- What a scrub says of a journal that was read to its end, and of the log of the seals.
use Rattle.std.specs.Prelude.{◌≡◌, ◌↔◌, IsTrue, ℕ, ◌-◌, true, false, List, length, Some, None}
use Rattle.feed_disk.specs.declared.area.Area.{Area}
use Rattle.feed_disk.specs.declared.area.Area.TheVariants.{Journal, Sealed, Mirror}
use Rattle.feed_journal.specs.Log.{LogValue}
use Rattle.feed_journal.specs.Records.{records, size_of, IsWhole}
use Rattle.feed_recovery.specs.Opening.{IsSealCount}
use Rattle.feed_recovery.specs.Replayed.{ReplayedValue}
use Rattle.store_scrub.specs.declared.fault.Unsound.{Unsound}
use Rattle.store_scrub.specs.declared.fault.Unsound.TheVariants.{NotInit, BadRecord, SealCount, BadSeal, OpenGate}
use Rattle.store_scrub.specs.declared.fault.Unsound.TheVariants.{DiskFault, NoMemory}

-- the log has the size of the frames of the content, and tells whether the content is whole
pub record KnowsEnd (log : LogValue) (content : List ℕ) : Type 0 where
  pub size : log.size ≡ size_of (records content)
  pub whole : IsTrue log.whole ↔ IsWhole content

-- no seal is wrong, and there may be this many
pub record HasSeals (replayed : ReplayedValue) (seals : LogValue) : Type 0 where
  pub right : replayed.wrong ≡ None
  pub count : IsSealCount replayed.head replayed.history (length seals.extents)

-- and no gate is open; these are the numbers of operations and of seals
pub record IsClear (replayed : ReplayedValue) (journal seals : LogValue) (operations found : ℕ) : Type 0 where
  pub has : HasSeals replayed seals
  pub journal_whole : journal.whole ≡ true
  pub sealed_whole : seals.whole ≡ true
  pub number_is : operations ≡ length replayed.history
  pub found_is : found ≡ length seals.extents

-- the first open gate
abbrev pub IsFirstGate : LogValue → LogValue → Area → ℕ → Type 0
IsFirstGate journal seals Journal at = (journal.whole ≡ false) × (at ≡ journal.size - 1)
IsFirstGate journal seals Sealed at = (journal.whole ≡ true) × (seals.whole ≡ false) × (at ≡ seals.size - 1)
IsFirstGate journal seals Mirror at = ⊥

-- the seals are right, and this is the first open gate
pub record HasGate (replayed : ReplayedValue) (journal seals : LogValue) (area : Area) (at : ℕ) : Type 0 where
  pub has : HasSeals replayed seals
  pub gate : IsFirstGate journal seals area at

-- the first fault after the journal was read
abbrev pub IsVerdict : ReplayedValue → LogValue → LogValue → Unsound → Type 0
IsVerdict replayed journal seals NotInit = ⊥
IsVerdict replayed journal seals (BadRecord area index at) = ⊥
IsVerdict replayed journal seals (SealCount operations found) =
    (replayed.wrong ≡ None) × (operations ≡ length replayed.history) × (found ≡ length seals.extents)
    × ¬ IsSealCount replayed.head replayed.history found
IsVerdict replayed journal seals (BadSeal index) = replayed.wrong ≡ Some index
IsVerdict replayed journal seals (OpenGate area at) = HasGate replayed journal seals area at
IsVerdict replayed journal seals DiskFault = ⊥
IsVerdict replayed journal seals NoMemory = ⊥
