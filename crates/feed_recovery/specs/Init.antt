-- The disk on which a store is made.
use Rattle.std.specs.Prelude.{◌≡◌, ◌<◌, false, []}
use Rattle.feed_disk.specs.Disk.{DiskState}
use Rattle.feed_disk.specs.declared.area.Area.TheVariants.{Journal, Sealed}
use Rattle.feed_journal.specs.Log.{LogValue}
use Rattle.feed_journal.specs.Records.{records}

-- neither the journal nor the sealed area has a payload
pub record HasNoPayload (disk : DiskState) : Type 0 where
  pub journal : records (disk.content Journal) ≡ []
  pub sealed : records (disk.content Sealed) ≡ []

-- the log of a journal without payloads, with room for the first
pub record IsFirstLog (log : LogValue) : Type 0 where
  pub area : log.area ≡ Journal
  pub none : log.extents ≡ []
  pub size : log.size ≡ 1
  pub unspent : log.spent ≡ false
  pub room : 0 < log.spare
