use Rattle.entry_reader.proofs.DraftLemmas.{one_draft}
use Rattle.entry_reader.proofs.OneRefusalLemmas.{not_refused, one_refusal}
use Rattle.entry_reader.proofs.laws.bytes_are_read_in_one_way.Goals as goal

pub returns-clause-drafts : goal.returns-clause-drafts
returns-clause-drafts c = one_draft

pub returns-clause-refusals : goal.returns-clause-refusals
returns-clause-refusals c = one_refusal

pub returns-clause-apart : goal.returns-clause-apart
returns-clause-apart c = not_refused
