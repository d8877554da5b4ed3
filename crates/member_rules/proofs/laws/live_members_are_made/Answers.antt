use Rattle.std.proofs.Common.{ap}
use Rattle.std.specs.Prelude.{is_some}
use Rattle.member_rules.specs.Fold.{fold_of, made}
use Rattle.member_rules.proofs.StateLemmas.{AreMembers-of, live_within}
use Rattle.member_rules.proofs.laws.live_members_are_made.Goals as goal

pub returns : goal.returns
returns c = λ created history number entry following live.
    let within = live_within (fold_of history) (made history) number (AreMembers-of created history following)
    (ap is_some live) in
    (within.0, within.1)
