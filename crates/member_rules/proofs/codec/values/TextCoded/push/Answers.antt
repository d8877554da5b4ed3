use Rattle.member_rules.specs.Fields.{kind, text, construct}
use Rattle.member_rules.proofs.codec.values.TextCoded.push.Goals as goal

pub returns-clause-added : goal.returns-clause-added
unfolding kind text construct
returns-clause-added g c =
    let join = g.met.W.Out.joins in
    (join _ _ _ _ _ c.in_ok-push.ensures.added
    c.in_ok-push-2.ensures.added)
