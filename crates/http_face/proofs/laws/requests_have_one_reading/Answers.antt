use Rattle.http_face.proofs.ReadingLemmas.{one_reading, unrefused, decided_fault}
use Rattle.http_face.proofs.laws.requests_have_one_reading.Goals as goal

pub returns-clause-one : goal.returns-clause-one
returns-clause-one c = one_reading

pub returns-clause-unrefused : goal.returns-clause-unrefused
returns-clause-unrefused c = unrefused

pub returns-clause-decided : goal.returns-clause-decided
returns-clause-decided c = decided_fault
