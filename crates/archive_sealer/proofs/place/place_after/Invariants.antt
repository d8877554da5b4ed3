use Rattle.std.proofs.Common.{◌-◌, ◌≤◌}
use Rattle.archive_sealer.specs.Place.{IsPlaceOf}
use Rattle.archive_sealer.proofs.place.place_after.Given as goal

abbrev pub invariant-loop-place : goal.invariant-loop-place
invariant-loop-place l = record { of : IsPlaceOf l.head.window l.history l.place; within : l.place.windows ≤ l.windows }

abbrev pub decreases-loop-place : goal.decreases-loop-place
decreases-loop-place l = l.windows - l.place.windows
