use Rattle.member_rules.proofs.codec.bytes.push_bytes.Goals as goal

pub returns-clause-added : goal.returns-clause-added
returns-clause-added g c =
    g.met.W.Out.joins _ _ _ _ _ c.in_ok-push_number.ensures.added c.in_ok-push.ensures.added
