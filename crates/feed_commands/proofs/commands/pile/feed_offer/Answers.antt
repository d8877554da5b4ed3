use Rattle.std.proofs.Common.{◌∙◌, ap}
use Rattle.chain_links.specs.Address.{printed}
use Rattle.chain_links.specs.declared.address.Address.TheVariants.{Feed}
use Rattle.member_rules.specs.Head.{HeadValue}
use Rattle.feed_commands.proofs.PileLemmas.{feed-offer}
use Rattle.feed_commands.proofs.commands.pile.feed_offer.Goals as goal

pub returns-clause-offer : goal.returns-clause-offer
returns-clause-offer c =
    feed-offer c.args.store.now.head c.args.store.now.history _ _
    (c.from_vec.ensures ∙ c.in_ok-address.ensures
    ∙ ap (λ (head : HeadValue). printed head.name.base Feed) (c.behind-store.view_is ∙ c.head.ensures))
    (c.from_vec-2.ensures ∙ c.in_ok-bytes.ensures.document)
