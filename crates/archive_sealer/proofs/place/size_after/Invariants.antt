use Rattle.std.proofs.Common.{◌≡◌, take}
use Rattle.member_rules.specs.Latest.{latest}
use Rattle.member_rules.specs.Windows.{size_set}
use Rattle.archive_sealer.proofs.place.size_after.Given as goal

abbrev pub invariant-loop-operation : goal.invariant-loop-operation
invariant-loop-operation l = l.size ≡ latest size_set l.first (take l.operation-index l.operations)
