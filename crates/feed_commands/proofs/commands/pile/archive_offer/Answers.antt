use Rattle.std.proofs.Common.{◌∙◌, ap}
use Rattle.chain_links.specs.Address.{printed}
use Rattle.chain_links.specs.declared.address.Address.TheVariants.{Archive}
use Rattle.member_rules.specs.Head.{HeadValue}
use Rattle.feed_commands.proofs.PileLemmas.{archive-offer}
use Rattle.feed_commands.proofs.commands.pile.archive_offer.Goals as goal

pub returns-clause-offer : goal.returns-clause-offer
returns-clause-offer g c = λ observable.
    archive-offer c.args.store.now.head c.args.store.now.history c.args.number _ _
    (c.from_vec.ensures ∙ c.in_ok-address.ensures
    ∙ ap (λ (head : HeadValue). printed head.name.base (Archive c.args.number))
    (c.behind-store.view_is ∙ c.head.ensures))
    (c.from_vec-2.ensures ∙ c.in_ok-bytes.ensures.document observable)
