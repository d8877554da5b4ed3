-- The value of a removal that contracts see.
use Rattle.std.specs.Prelude.{ℤ, ◌≤ℤ◌}
use Rattle.atom_values.specs.Stamp.{IsStamp}
use Rattle.deleted_entries.specs.Tombstone.{TombstoneValue, IsTombstone}

-- the tombstone of the member, and the moment when the removal was accepted
pub record RemovalValue : Type 0 where
  pub tombstone : TombstoneValue
  pub moment : ℤ

-- the rules that the types of a removal keep
pub record IsRemoval (r : RemovalValue) : Type 0 where
  pub tombstone : IsTombstone r.tombstone
  pub moment : IsStamp r.moment
  pub in_order : r.moment ≤ℤ r.tombstone.when
