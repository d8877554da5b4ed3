-- Where a window of a list of operations begins, and its size.
use Rattle.std.specs.Prelude.{◌≡◌, ℕ, ◌≤◌, List, length, take}
use Rattle.member_rules.specs.Setting.{IsWindowSize}
use Rattle.member_rules.specs.Windows.{size_after, window_ends}
use Rattle.member_rules.specs.declared.operation.Op.{Op}
use Rattle.archive_sealer.specs.declared.place.Place.{Place}

-- the window after the first `place.windows` ones begins after `place.before` operations and has this size, in a feed
-- whose first window has the size `first`
pub record IsPlaceOf (first : ℕ) (history : List Op) (place : Place) : Type 0 where
  pub first_size : IsWindowSize first
  pub before : place.before ≡ window_ends first history place.windows
  pub size : place.size ≡ size_after first (take place.before history)
  pub limits : IsWindowSize place.size
  pub within : place.before ≤ length history
  pub counted : place.windows ≤ place.before
