-- The state of a connection, as contracts see it.
use Rattle.std.specs.Prelude.{◌≡◌, ◌⊎◌, ℕ, ◌≤◌, List, ◌++◌, length, Option}

pub record ConnState : Type 0 where
  -- the bytes that are left to read
  pub left : List ℕ
  -- the bytes that were sent
  pub sent : List ℕ
  -- the number of failed calls
  pub faults : ℕ
  -- the disk's clock when the reply began
  pub begun : Option ℕ
  -- the number of bytes that reads have returned
  pub bytes_read : ℕ
  -- the number of calls of `read`, failed ones too
  pub reads : ℕ
  -- the bytes that were left when the last call of `read` began
  pub before_read : List ℕ

-- a call that reads leaves what was sent and the mark of the reply
pub record Reads (s t : ConnState) : Type 0 where
  pub sent : t.sent ≡ s.sent
  pub begun : t.begun ≡ s.begun

-- a call that writes leaves the mark of the reply, and all that belongs to reading
pub record Writes (s t : ConnState) : Type 0 where
  pub left : t.left ≡ s.left
  pub begun : t.begun ≡ s.begun
  pub bytes_read : t.bytes_read ≡ s.bytes_read
  pub reads : t.reads ≡ s.reads
  pub before_read : t.before_read ≡ s.before_read

-- no call of `read` was made
abbrev pub ReadsNothing : ConnState → ConnState → Type 0
ReadsNothing s t = (t.reads ≡ s.reads) × (t.before_read ≡ s.before_read)

-- if a call of `read` was made, this is true of the bytes that were taken before the last one
pub record LastReadAfter (holds : List ℕ → Type 0) (s t : ConnState) : Type 0 where
  pub last : ReadsNothing s t ⊎ ((before : List ℕ) × (s.left ≡ before ++ t.before_read) × holds before)

-- at most this many bytes were read
pub record TakesAtMost (most : ℕ) (s t : ConnState) : Type 0 where
  pub read : List ℕ
  pub from : s.left ≡ read ++ t.left
  pub within : length read ≤ most
