use Rattle.std.proofs.Common.{◌≡◌, take}
use Rattle.member_rules.specs.Fold.{made}
use Rattle.member_rules.proofs.plain.plain_count.Given as goal

abbrev pub invariant-loop-operation : goal.invariant-loop-operation
invariant-loop-operation l = l.count ≡ made (take l.operation-index l.history)
