use Rattle.std.proofs.Common.{◌≡◌, take}
use Rattle.member_rules.specs.Fold.{fold_of, updated_of}
use Rattle.member_rules.proofs.plain.plain_live.Given as goal

abbrev pub invariant-loop-operation : goal.invariant-loop-operation
invariant-loop-operation l = l.live ≡ updated_of ((fold_of (take l.operation-index l.history)).live l.number)
