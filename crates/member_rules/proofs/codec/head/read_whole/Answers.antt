use Rattle.member_rules.specs.Coding.{heads}
use Rattle.member_rules.proofs.HeadLemmas.{heads_compared}
use Rattle.member_rules.proofs.SequenceLemmas.{ended, not_whole}
use Rattle.member_rules.proofs.codec.head.read_whole.Goals as goal

pub returns-in_err-head : goal.returns-in_err-head
returns-in_err-head c =
    not_whole heads c.args.unread.now.rest.now _ _ _ c.in_err-head.ensures c.from_residual.ensures.1

pub returns : goal.returns
returns c =
    ended heads heads_compared c.args.unread.now.rest.now _ c.in_ok-head.head c.is_empty.result c.then_some.result
    c.ok_or.result c.in_ok-head.ensures c.is_empty.ensures c.then_some.ensures c.ok_or.ensures.value
