use Rattle.std.proofs.Common.{ℕ, Global, Option, Vec, sym, subst, ◌∙◌}
use Rattle.std.specs.Prelude.{IfSome}
use Rattle.chain_links.specs.Address.{printed}
use Rattle.feed_relay.proofs.ReplyLemmas.{same-bytes}
use Rattle.feed_relay.proofs.answer.show.Goals as goal
use Rattle.member_rules.specs.Served.{Served}

pub returns-in-Ok-Some-clause-served : goal.returns-in-Ok-Some-clause-served
returns-in-Ok-Some-clause-served g c = λ tells head history served bytes is.
    subst (Served head history (printed c.args.mirror.now.base c.args.address))
    (same-bytes _ bytes (sym c.document-in-Ok-Some.ensures ∙ is))
    (subst (λ (found : Option (Vec ℕ Global)). IfSome found
    (λ text. Served head history (printed c.args.mirror.now.base c.args.address) text.items)) c.in-Ok-Some.field-0-is
    (c.in-Ok-Some.ensures.served tells head history served))
