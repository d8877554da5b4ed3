use Rattle.std.proofs.Common.{◌-◌, ◌≤◌}
use Rattle.archive_sealer.specs.Place.{IsPlaceOf}
use Rattle.archive_sealer.proofs.place.last_place.Given as goal

abbrev pub invariant-loop-place : goal.invariant-loop-place
invariant-loop-place l = record { of : IsPlaceOf l.head.window l.history l.place; within : l.place.before ≤ l.count }

abbrev pub decreases-loop-place : goal.decreases-loop-place
decreases-loop-place l = l.count - l.place.before
