use Rattle.atom_writer.proofs.LengthLemmas.{without_failure}
use Rattle.member_rules.proofs.PayloadLemmas.{operation-short}
use Rattle.member_rules.proofs.codec.op_bytes.Goals as goal

pub returns-in_err-out-clause-bound : goal.returns-in_err-out-clause-bound
returns-in_err-out-clause-bound c =
    operation-short c.args.operation.now
    (without_failure c.push_operation.result c.push_operation.ensures.failed c.push_operation.ensures.rules)

pub returns-in_err-push_operation-clause-bound : goal.returns-in_err-push_operation-clause-bound
returns-in_err-push_operation-clause-bound c =
    operation-short c.args.operation.now
    (without_failure c.push_operation.result c.push_operation.ensures.failed c.push_operation.ensures.rules)

pub returns-clause-bound : goal.returns-clause-bound
returns-clause-bound c =
    operation-short c.args.operation.now
    (without_failure c.push_operation.result c.push_operation.ensures.failed c.push_operation.ensures.rules)
