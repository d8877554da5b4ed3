use Rattle.service_reader.proofs.ServiceLawLemmas.{one_service, one_service_refusal, service_not_refused}
use Rattle.service_reader.proofs.laws.bytes_are_read_as_a_service_in_one_way.Goals as goal

pub returns-clause-collections : goal.returns-clause-collections
returns-clause-collections c = one_service

pub returns-clause-refusals : goal.returns-clause-refusals
returns-clause-refusals c = one_service_refusal

pub returns-clause-apart : goal.returns-clause-apart
returns-clause-apart c = service_not_refused
