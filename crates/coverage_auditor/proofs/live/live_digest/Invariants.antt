use Rattle.std.proofs.Common.{◌-◌}
use Rattle.member_rules.specs.Shows.{greatest_member}
use Rattle.sha2.specs.Hashers.{Holds256}
use Rattle.coverage_auditor.proofs.NextLiveLemmas.{text_up_to}
use Rattle.coverage_auditor.proofs.live.live_digest.Given as goal

abbrev pub invariant-members : goal.invariant-members
invariant-members l = Holds256 l.hasher (text_up_to l.name l.chain l.after)

abbrev pub decreases-members : goal.decreases-members
decreases-members l = greatest_member l.chain - l.after
