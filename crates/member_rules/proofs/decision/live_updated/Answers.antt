use Rattle.std.proofs.Common.{sym}
use Rattle.member_rules.proofs.DecisionLemmas.{live_entry-never, live_entry-live, live_entry-gone}
use Rattle.member_rules.proofs.decision.live_updated.Goals as goal

pub returns-in-Never-clause-entry : goal.returns-in-Never-clause-entry
returns-in-Never-clause-entry c = λ created history of. live_entry-never history c.args.number
    (sym (c.in-Never.ensures.state created history of))

pub returns-in-Live-clause-entry : goal.returns-in-Live-clause-entry
returns-in-Live-clause-entry c = λ created history of.
    live_entry-live created history c.args.number c.in-Live.version c.in-Live.updated of.following
    (sym (c.in-Live.ensures.state created history of))

pub returns-in-Gone-clause-entry : goal.returns-in-Gone-clause-entry
returns-in-Gone-clause-entry c = λ created history of.
    live_entry-gone created history c.args.number c.in-Gone.when of.following
    (sym (c.in-Gone.ensures.state created history of))
