use Rattle.member_rules.proofs.CutLemmas.{windows-sealed}
use Rattle.member_rules.proofs.laws.sealed_windows_are_full.Goals as goal

pub returns : goal.returns
returns c = windows-sealed
