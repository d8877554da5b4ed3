-- A disk as contracts see it: its content, its counters, and the images that a crash may leave.
use Rattle.std.specs.Prelude.{◌≡◌, ◌⊎◌, ℕ, ◌+◌, ◌≤◌, max, List, ◌++◌, length, take, drop, Result, OnOk, OnErr}
use Rattle.atom_values.specs.Counts.{counted, HasRisen}
use Rattle.feed_disk.specs.declared.area.Area.{Area}

-- Moment c runs from the return of device call c - 1 to the return of device call c. An image of an area is a list of
-- bytes that the area may have after a crash.
pub record DiskState : Type 1 where
  -- the bytes that a read gives
  pub content : Area → List ℕ
  -- the number of device calls made
  pub clock : ℕ
  -- the number of device calls that failed
  pub faults : ℕ
  -- the number of bytes that reads have returned
  pub bytes_read : ℕ
  -- a crash at this moment may leave this image of the area
  pub image_at : Area → ℕ → List ℕ → Type 0
  -- a crash after the last call may leave this image of the area
  pub image_now : Area → List ℕ → Type 0

-- the law of every disk
pub record IsDisk (observable : Type 0) (s : DiskState) : Type 0 where
  -- no moment is later than the clock
  pub begun : (a : Area) (c : ℕ) (i : List ℕ) → s.image_at a c i → c ≤ s.clock
  -- each image of now is an image of the last moment
  pub last : (a : Area) (i : List ℕ) → s.image_now a i → s.image_at a s.clock i
  -- the content is an image of now
  pub content : observable → (a : Area) → s.image_now a (s.content a)

-- a list after these items were written over it from an offset, and past its end
abbrev pub written : {T : Type 0} → List T → ℕ → List T → List T
written old at bytes = take at old ++ bytes ++ drop (at + length bytes) old

-- A write of n bytes at this offset may make `new` of the image `old`: any bytes in the range and past the old end,
-- any size from the old one to the new one, and the same bytes elsewhere.
pub record Torn (at n : ℕ) (old new : List ℕ) : Type 0 where
  pub before : take at new ≡ take at old
  pub after : drop (at + n) new ≡ drop (at + n) old
  pub no_shorter : length old ≤ length new
  pub no_longer : length new ≤ max (length old) (at + n)

-- an image that a write may make of one of these images
abbrev pub TornFrom : ℕ → ℕ → (List ℕ → Type 0) → List ℕ → Type 0
TornFrom at n images i = (d : List ℕ) × images d × Torn at n d i

-- One device call leads from s to t in this area. A crash within it leaves an image of `within`, and each image that a
-- crash before it could leave is one of them. Earlier moments stay as they were.
pub record Passes (s t : DiskState) (a : Area) (within : List ℕ → Type 0) : Type 0 where
  pub moments : (c : ℕ) (i : List ℕ) → t.image_at a c i → s.image_at a c i ⊎ ((c ≡ t.clock) × within i)
  pub keeps : (c : ℕ) (i : List ℕ) → s.image_at a c i → t.image_at a c i
  pub was : (i : List ℕ) → s.image_now a i → t.image_at a t.clock i
  pub now : (i : List ℕ) → t.image_now a i → within i

-- one device call that leaves this area as it is
pub record PassesBy (s t : DiskState) (a : Area) : Type 0 where
  pub passes : Passes s t a (s.image_now a)
  pub still : (i : List ℕ) → s.image_now a i → t.image_now a i
  pub content : t.content a ≡ s.content a

-- the clock counts one device call, and the faults rise where it failed and stay where it worked
pub record CountsCall {T E : Type 0} (s t : DiskState) (result : Result T E) : Type 0 where
  pub clock : t.clock ≡ counted s.clock
  pub later : s.clock ≤ t.clock
  pub faults : s.faults ≤ t.faults
  pub failed : OnErr result (HasRisen s.faults t.faults)
  pub worked : OnOk result (t.faults ≡ s.faults)
