-- The reading back of a mirror's entries.
use Rattle.std.specs.Prelude.{◌≡◌, true}
use Rattle.feed_disk.specs.Disk.{DiskState}
use Rattle.mirror_walk.specs.Mirror.{MirrorValue, StandsFor}

-- the mirror is as it was, but for the count of its log's calls
abbrev pub KeepsAllBut : MirrorValue → MirrorValue → Type 0
KeepsAllBut before after = after ≡ record before { log = record before.log { calls = after.log.calls } }

-- the same of a mirror that a failed device call spent
abbrev pub IsSpentBy : MirrorValue → MirrorValue → Type 0
IsSpentBy before after =
    after ≡ record before { log = record before.log { calls = after.log.calls; spent = true } }

-- Entries were read back. The mirror can go on, unless a device call failed.
pub record HasReadBack (observable : Type 0) (disk : DiskState) (before after : MirrorValue) (failed : Type 0)
    : Type 0 where
  pub same : ¬ failed → KeepsAllBut before after
  pub spent : failed → IsSpentBy before after
  pub stands : ¬ failed → observable → StandsFor disk after
