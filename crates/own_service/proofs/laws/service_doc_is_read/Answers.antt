use Rattle.own_service.proofs.LawLemmas.{service_read}
use Rattle.own_service.proofs.laws.service_doc_is_read.Goals as goal

pub returns : goal.returns
returns c = service_read
