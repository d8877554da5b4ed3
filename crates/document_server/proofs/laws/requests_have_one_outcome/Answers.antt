use Rattle.document_server.proofs.PageLemmas.{one-answer}
use Rattle.document_server.proofs.laws.requests_have_one_outcome.Goals as goal

pub returns : goal.returns
returns c = one-answer
