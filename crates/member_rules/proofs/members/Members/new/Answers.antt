use Rattle.std.proofs.Common.{rules}
use Rattle.member_rules.specs.Fold.{fold_of}
use Rattle.member_rules.specs.Recent.{recent_members}
use Rattle.member_rules.proofs.members.Members.new.Goals as goal

pub returns-clause-table : goal.returns-clause-table
unfolding fold_of recent_members
returns-clause-table c = search rules
