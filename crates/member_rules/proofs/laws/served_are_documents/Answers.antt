use Rattle.member_rules.proofs.ServedLemmas.{served-documents}
use Rattle.member_rules.proofs.laws.served_are_documents.Goals as goal

pub returns : goal.returns
returns c = served-documents
