use Rattle.foreign_entries.proofs.LawLemmas.{documents_have_one_live}
use Rattle.foreign_entries.proofs.laws.documents_have_one_live_list.Goals as goal

pub returns : goal.returns
returns c = documents_have_one_live
