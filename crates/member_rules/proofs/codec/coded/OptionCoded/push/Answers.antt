use Rattle.member_rules.specs.Fields.{optional}
use Rattle.member_rules.proofs.codec.coded.OptionCoded.push.Goals as goal

pub returns-in_ok-push-in-Some-2-clause-added : goal.returns-in_ok-push-in-Some-2-clause-added
unfolding optional
returns-in_ok-push-in-Some-2-clause-added g c =
    rw c.in-Some.is
    (g.met.W.Out.joins _ _ _ _ _ c.in_ok-push-in-Some.ensures.added c.in_ok-push-in-Some-2.ensures.added)
