-- Tombstones in contracts (RFC 6721 section 3).
use Rattle.std.specs.Prelude.{ℕ, ◌≤◌, ◌<◌, ◌^◌, ℤ}
use Rattle.atom_values.specs.Stamp.{IsStamp}

-- member `number` was deleted at `when`
pub record TombstoneValue : Type 0 where
  pub number : ℕ
  pub when : ℤ

-- the invariant of the type `Tombstone`
pub record IsTombstone (t : TombstoneValue) : Type 0 where
  pub number : (1 ≤ t.number) × (t.number < 2 ^ 32)
  pub when : IsStamp t.when
