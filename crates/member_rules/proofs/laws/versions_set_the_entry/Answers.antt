use Rattle.member_rules.proofs.VersionLemmas.{version-is}
use Rattle.member_rules.proofs.laws.versions_set_the_entry.Goals as goal

pub returns : goal.returns
returns c = version-is
