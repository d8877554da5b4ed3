use Rattle.foreign_command.proofs.OneForeignLemmas.{one_foreign_answer}
use Rattle.foreign_command.proofs.laws.foreign_has_one_answer.Goals as goal

pub returns : goal.returns
returns c = one_foreign_answer c.walks_end_in_one_way.ensures.ends c.documents_have_one_live_list.ensures
