use Rattle.member_rules.specs.Coding.{operations}
use Rattle.member_rules.proofs.OperationLemmas.{operations_compared}
use Rattle.member_rules.proofs.SequenceLemmas.{ended, not_whole}
use Rattle.member_rules.proofs.codec.operation.read_whole.Goals as goal

pub returns-in_err-operation : goal.returns-in_err-operation
returns-in_err-operation c =
    not_whole operations c.args.unread.now.rest.now _ _ _ c.in_err-operation.ensures c.from_residual.ensures.1

pub returns : goal.returns
returns c =
    ended operations operations_compared c.args.unread.now.rest.now _ c.in_ok-operation.operation
    c.is_empty.result c.then_some.result c.ok_or.result c.in_ok-operation.ensures
    c.is_empty.ensures c.then_some.ensures c.ok_or.ensures.value
