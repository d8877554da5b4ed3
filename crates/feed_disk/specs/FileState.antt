-- A disk of files as contracts see it, and its law, which is in specs/ for the reason that DiskLaw.antt gives.
use Rattle.std.proofs.Common.{◌≤◌, [], arith}
use Rattle.feed_disk.specs.Disk.{DiskState, IsDisk}
use Rattle.feed_disk.specs.declared.disk_counts.DiskCounts.{DiskCounts}

-- The content means nothing, since nobody is told of it. A crash may leave any bytes at each moment that has begun.
abbrev pub file_state : DiskCounts → DiskState
file_state c = record {
  content = λ _. [];
  clock = c.clock;
  faults = c.faults;
  bytes_read = c.bytes_read;
  image_at = λ _ moment _. moment ≤ c.clock;
  image_now = λ _ _. Unit {0};
}

pub files_are_disk : (c : DiskCounts) → IsDisk ⊥ (file_state c)
files_are_disk c = record {
  begun = λ a moment i may. may;
  last = λ a i may. omega arith;
  content = λ observable. absurd observable;
}
