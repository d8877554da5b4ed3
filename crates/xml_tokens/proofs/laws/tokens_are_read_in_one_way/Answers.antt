use Rattle.xml_tokens.proofs.OneDocumentLemmas.{one_document}
use Rattle.xml_tokens.proofs.OneRefusalLemmas.{document_not_refused, one_token_refusal}
use Rattle.xml_tokens.proofs.laws.tokens_are_read_in_one_way.Goals as goal

pub returns-clause-trees : goal.returns-clause-trees
returns-clause-trees c = one_document

pub returns-clause-refusals : goal.returns-clause-refusals
returns-clause-refusals c = one_token_refusal

pub returns-clause-apart : goal.returns-clause-apart
returns-clause-apart c = document_not_refused
