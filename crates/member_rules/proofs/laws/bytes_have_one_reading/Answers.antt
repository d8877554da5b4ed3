use Rattle.atom_writer.proofs.PiecedLemmas.{one_reading}
use Rattle.member_rules.specs.Coding.{heads, operations}
use Rattle.member_rules.proofs.HeadLemmas.{heads_compared}
use Rattle.member_rules.proofs.OperationLemmas.{operations_compared}
use Rattle.member_rules.proofs.laws.bytes_have_one_reading.Goals as goal

pub returns-clause-operations : goal.returns-clause-operations
returns-clause-operations c = one_reading operations operations_compared

pub returns-clause-heads : goal.returns-clause-heads
returns-clause-heads c = one_reading heads heads_compared
