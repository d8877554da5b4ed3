use Rattle.std.proofs.Common.{◌∙◌, Some, None, ap, sym, option_map}
use Rattle.url.specs.Parser.{parse_url}
use Rattle.url.specs.Parts.{serialize}
use Rattle.feed_reader.specs.Feed.{based}
use Rattle.feed_reader.proofs.FeedLinkLemmas.{is_joined, not_joined}
use Rattle.service_reader.proofs.link.joined_text.Goals as goal

pub returns-in_default : goal.returns-in_default
returns-in_default c = not_joined c.args.address.now c.args.reference.now c.in_default.ensures.cases.0

pub returns-in_ok-of-in-Some : goal.returns-in_ok-of-in-Some
returns-in_ok-of-in-Some c =
    let address = c.in-Ok.ensures.cases in
    let reference = c.in-Ok-from_utf8.ensures.cases.0 in
    ap (λ k. Some k) (c.in_ok-of-in-Some.ensures ∙ c.as_bytes.ensures.value ∙ c.as_str.ensures.value)
    ∙ ap (option_map serialize) (sym c.in-Some.is) ∙ c.in_ok-url.ensures
    ∙ (λ i. based (parse_url None (address.0 i)) (reference i))
    ∙ is_joined c.args.address.now c.args.reference.now address.1
