use Rattle.service_face.proofs.PageLemmas.{no_document}
use Rattle.service_face.proofs.laws.pages_are_no_documents.Goals as goal

pub returns : goal.returns
returns c = λ base target page address is names. no_document base target page address names
