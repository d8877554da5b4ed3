use Rattle.std.proofs.Common.{◌≡◌, take}
use Rattle.member_rules.specs.Documents.{title_set}
use Rattle.member_rules.specs.Latest.{latest}
use Rattle.archive_sealer.proofs.document.name_after.Given as goal

abbrev pub invariant-loop-operation : goal.invariant-loop-operation
invariant-loop-operation l = l.title ≡ latest title_set l.name.title (take l.operation-index l.operations)
