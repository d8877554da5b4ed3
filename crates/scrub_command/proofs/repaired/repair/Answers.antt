use Rattle.scrub_command.proofs.OneRepairLemmas.{refused-given, repaired-given}
use Rattle.scrub_command.proofs.RepairEndLemmas.{ends-repaired, ends-stopped, ends-unprinted}
use Rattle.scrub_command.proofs.repaired.repair.Goals as goal

pub returns-in_ok-line_of-in-Ok-clause-answer : goal.returns-in_ok-line_of-in-Ok-clause-answer
returns-in_ok-line_of-in-Ok-clause-answer g c = λ observable.
    repaired-given c.repairs_end_in_one_way.ensures _ _ _ (c.in-Ok.ensures.repaired observable) _
    c.in_ok-line_of-in-Ok.ensures

pub returns-in_ok-line_of-in-Ok-clause-ends : goal.returns-in_ok-line_of-in-Ok-clause-ends
returns-in_ok-line_of-in-Ok-clause-ends g c = λ observable.
    ends-repaired _ _ _ (c.repair.ensures.moments observable) (c.in-Ok.ensures.settles observable)

pub returns-in_err-line_of-in-Ok-clause-ends : goal.returns-in_err-line_of-in-Ok-clause-ends
returns-in_err-line_of-in-Ok-clause-ends g c = λ observable.
    ends-unprinted _ _ c.from_residual.result c.from_residual.ensures.1 (c.repair.ensures.moments observable)

pub returns-in-Err-clause-refused : goal.returns-in-Err-clause-refused
returns-in-Err-clause-refused g c = λ refuses observable.
    rw c.of_repair.ensures (refused-given _ c.repairs_end_in_one_way.ensures _ _ c.in-Err.is
    (c.in-Err.ensures.refused observable) (c.repair.ensures.only observable) (rw c.of_repair.ensures at refuses))

pub returns-in-Err-clause-ends : goal.returns-in-Err-clause-ends
returns-in-Err-clause-ends g c = λ observable.
    rw c.of_repair.ensures (ends-stopped _ _ _ _ c.in-Err.is (c.repair.ensures.moments observable)
    (λ size needed capacity is. c.repair.ensures.full size needed capacity is observable)
    (c.repair.ensures.unwritten observable).0 (c.repair.ensures.unwritten observable).1)
