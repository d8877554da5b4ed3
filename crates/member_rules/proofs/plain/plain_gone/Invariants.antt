use Rattle.std.proofs.Common.{◌≡◌, take}
use Rattle.member_rules.specs.Fold.{fold_of}
use Rattle.member_rules.proofs.plain.plain_gone.Given as goal

abbrev pub invariant-loop-operation : goal.invariant-loop-operation
invariant-loop-operation l = l.gone ≡ (fold_of (take l.operation-index l.history)).gone l.number
