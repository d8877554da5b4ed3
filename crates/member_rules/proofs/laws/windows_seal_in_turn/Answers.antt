use Rattle.member_rules.proofs.CutLemmas.{windows-in_turn}
use Rattle.member_rules.proofs.laws.windows_seal_in_turn.Goals as goal

pub returns : goal.returns
returns c = windows-in_turn
