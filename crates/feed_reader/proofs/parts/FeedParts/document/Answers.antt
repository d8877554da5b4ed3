use Rattle.std.proofs.Common.{◌≡◌, [], true, false, Some, subst, rules}
use Rattle.std.specs.Prelude.{◌&&◌}
use Rattle.xml_tokens.specs.Tree.Content.{nothing, element}
use Rattle.xml_tokens.specs.Order.{IsFirst, all_placed}
use Rattle.feed_reader.specs.declared.fault.FeedWhy.TheVariants.{Missing}
use Rattle.feed_reader.specs.FeedFaults.{feed_rules}
use Rattle.feed_reader.specs.FeedFaults.Within.{at_root, in_feed}
use Rattle.feed_reader.proofs.FeedMadeLemmas.{feed_lacks, feed_says, lacks_noted, whole_noted}
use Rattle.feed_reader.proofs.parts.FeedParts.document.Goals as goal

pub returns-then-not-all : goal.returns-then-not-all
returns-then-not-all c = λ root inner here is h.
    let old = c.args.self in
    let address = old.address.now in
    let not : (old.required.id && old.required.updated) ≡ false = search rules in
    subst (λ k. IsFirst (feed_rules address) (all_placed (feed_rules address) at_root [] (element root inner nothing))
    (Some (k, Missing))) here (feed_lacks address root inner is (lacks_noted inner old.required h.required not))

pub returns-in-Some : goal.returns-in-Some
returns-in-Some c = λ root inner here is h.
    let old = c.args.self in
    let address = old.address.now in
    let all : (old.required.id && old.required.updated) ≡ true = search rules in
    feed_says address root inner is (whole_noted inner old.required h.required all) (Some c.in-Some.refusal)
    (subst (λ r. IsFirst (feed_rules address) (all_placed (feed_rules address) in_feed [] inner) r) c.in-Some.is h.refused)
