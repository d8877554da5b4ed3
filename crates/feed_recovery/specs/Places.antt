-- Where the journal has the last entry of each member.
use Rattle.std.specs.Prelude.{◌≡◌, ℕ, ◌-◌, ℤ, List, length, slice_get}
use Rattle.feed_journal.specs.declared.extent.Extent.{Extent}
use Rattle.feed_recovery.specs.Documents.{IsLiveSince}
use Rattle.member_rules.specs.Fold.{made}
use Rattle.member_rules.specs.History.{AreFollowing, MayFollow}
use Rattle.member_rules.specs.declared.operation.Op.{Op}

-- a place for each member, in order of number from 1, and for how many more there is room
pub record PlacesValue : Type 0 where
  pub extents : List Extent
  pub spare : ℕ

-- there is a place for each member that was made, and that of a live one is the journal's for the operation that set its
-- entry; the journal's first payload is the head, so that of operation k, counted from 1, has the index k
pub record ArePlaces (extents : List Extent) (history : List Op) (journal : List Extent) : Type 0 where
  pub count : length extents ≡ made history
  pub live : (number version : ℕ) → IsLiveSince history number version
      → slice_get extents (number - 1) ≡ slice_get journal version

-- the operation may follow a history whose members have these places
pub record MayPlace (extents : List Extent) (operation : Op) : Type 0 where
  pub created : ℤ
  pub history : List Op
  pub count : length extents ≡ made history
  pub following : AreFollowing created history
  pub follows : MayFollow created history operation
