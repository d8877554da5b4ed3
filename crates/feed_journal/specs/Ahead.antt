-- Bytes of one area that were read ahead of their use.
use Rattle.std.specs.Prelude.{◌≡◌, ℕ, ◌+◌, ◌-◌, ◌≤◌, List, length, take, drop}
use Rattle.feed_disk.specs.Disk.{DiskState}
use Rattle.feed_disk.specs.Raised.{raised}

-- the bytes, and the offset of the first
pub record AheadValue : Type 0 where
  pub from : ℕ
  pub bytes : List ℕ

-- the bytes are those of the content at their offset
abbrev pub IsAhead : AheadValue → List ℕ → Type 0
IsAhead ahead content = ahead.bytes ≡ take (length ahead.bytes) (drop ahead.from content)

-- the n bytes from this offset on are among them
pub record HasAhead (ahead : AheadValue) (at n : ℕ) : Type 0 where
  pub begins : ahead.from ≤ at
  pub ends : at + n ≤ ahead.from + length ahead.bytes

-- how many of them are left from this offset on
abbrev pub left_from : ℕ → AheadValue → ℕ
left_from at ahead = length ahead.bytes - (at - ahead.from)

-- The n bytes from this offset on, and the bytes that are then left behind them, are no more than the bytes that were
-- left and those that reads gave.
pub record Gives (s t : DiskState) (at n : ℕ) (before after : AheadValue) : Type 0 where
  pub number : ℕ
  pub read : raised s.bytes_read number ≤ t.bytes_read
  pub most : n + left_from (at + n) after ≤ left_from at before + number
