-- The changes of an area, divided at its last sync.
use Rattle.std.specs.Prelude.{⊤, ℕ, ◌≤◌, Bool, true, false, List, [], ◌∷◌, length, replicate}
use Rattle.feed_disk.specs.Disk.{written}
use Rattle.feed_disk.specs.declared.change.Change.{Change}
use Rattle.feed_disk.specs.declared.change.Change.TheVariants.{Write, FailedWrite, Sync}

abbrev pub is_sync : Change → Bool
is_sync (Write call at bytes) = false
is_sync (FailedWrite call at bytes) = false
is_sync (Sync call) = true

-- the changes since the last sync, the newest first
abbrev pub pending_of : List Change → List Change
pending_of [] = []
pending_of (Write call at bytes ∷ older) = Write call at bytes ∷ pending_of older
pending_of (FailedWrite call at bytes ∷ older) = FailedWrite call at bytes ∷ pending_of older
pending_of (Sync call ∷ older) = []

-- the last sync and the changes before it
abbrev pub settled_of : List Change → List Change
settled_of [] = []
settled_of (Write call at bytes ∷ older) = settled_of older
settled_of (FailedWrite call at bytes ∷ older) = settled_of older
settled_of (Sync call ∷ older) = Sync call ∷ older

-- the bytes after each of these writes, failed ones included
abbrev pub applied : List ℕ → List Change → List ℕ
applied bytes [] = bytes
applied bytes (Write call at from ∷ older) = written (applied bytes older) at from
applied bytes (FailedWrite call at from ∷ older) = written (applied bytes older) at from
applied bytes (Sync call ∷ older) = applied bytes older

-- the marks after each byte of these writes' ranges was marked
abbrev pub marked_by : List Bool → List Change → List Bool
marked_by marks [] = marks
marked_by marks (Write call at from ∷ older) = written (marked_by marks older) at (replicate (length from) true)
marked_by marks (FailedWrite call at from ∷ older) = written (marked_by marks older) at (replicate (length from) true)
marked_by marks (Sync call ∷ older) = marked_by marks older

-- each write begins in the bytes before it or at their end
abbrev pub Reaches : List ℕ → List Change → Type 0
Reaches bytes [] = ⊤
Reaches bytes (Write call at from ∷ older) = (at ≤ length (applied bytes older)) × Reaches bytes older
Reaches bytes (FailedWrite call at from ∷ older) = (at ≤ length (applied bytes older)) × Reaches bytes older
Reaches bytes (Sync call ∷ older) = Reaches bytes older
