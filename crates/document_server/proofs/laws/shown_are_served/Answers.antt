use Rattle.document_server.proofs.PageLemmas.{answers-served}
use Rattle.document_server.proofs.laws.shown_are_served.Goals as goal

pub returns : goal.returns
returns c = answers-served
