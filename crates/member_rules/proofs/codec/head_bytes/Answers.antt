use Rattle.atom_writer.proofs.LengthLemmas.{without_failure}
use Rattle.member_rules.proofs.PayloadLemmas.{head-short}
use Rattle.member_rules.proofs.codec.head_bytes.Goals as goal

pub returns-in_err-out-clause-bound : goal.returns-in_err-out-clause-bound
returns-in_err-out-clause-bound c =
    head-short c.args.head.now
    (without_failure c.push_head.result c.push_head.ensures.failed c.push_head.ensures.rules)

pub returns-in_err-push_head-clause-bound : goal.returns-in_err-push_head-clause-bound
returns-in_err-push_head-clause-bound c =
    head-short c.args.head.now
    (without_failure c.push_head.result c.push_head.ensures.failed c.push_head.ensures.rules)

pub returns-clause-bound : goal.returns-clause-bound
returns-clause-bound c =
    head-short c.args.head.now
    (without_failure c.push_head.result c.push_head.ensures.failed c.push_head.ensures.rules)
