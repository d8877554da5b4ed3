use Rattle.scrub_command.proofs.OneRepairLemmas.{one_end}
use Rattle.scrub_command.proofs.laws.repairs_have_one_end.Goals as goal

pub returns : goal.returns
returns c = one_end c.repairs_end_in_one_way.ensures
