use Rattle.member_rules.specs.Fields.{text, optional, person}
use Rattle.member_rules.proofs.codec.parts.PersonCoded.push.Goals as goal

pub returns-clause-added : goal.returns-clause-added
unfolding text optional person
returns-clause-added g c =
    let join = g.met.W.Out.joins in
    (join _ _ _ _ _ (join _ _ _ _ _ c.in_ok-push.ensures.added
    c.in_ok-push-2.ensures.added)
    c.in_ok-push-3.ensures.added)
