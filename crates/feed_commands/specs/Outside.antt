-- The outside of a command: all that its answer may depend on, beside its words.
use Rattle.std.specs.Prelude.{ℕ, List, Option}
use Rattle.doc_source.specs.Fetch.{FetchState}
use Rattle.doc_source.specs.Outside.{SourceState}
use Rattle.feed_disk.specs.Disk.{DiskState}
use Rattle.feed_disk.specs.declared.area.Area.{Area}

-- the coming moments of the clock, the rest of the input, the content of each area of the disk, and what the source of
-- documents answers to each address
pub record Outside : Type 0 where
  pub moments : ℕ → ℕ
  pub input : List ℕ
  pub content : Area → List ℕ
  pub answers : List ℕ → Option (List ℕ)

-- the same, as a command finds it
abbrev pub outside_of : (ℕ → ℕ) → SourceState → DiskState → FetchState → Outside
outside_of moments input disk fetch =
    record { moments = moments; input = input.left; content = disk.content; answers = fetch.answers }
