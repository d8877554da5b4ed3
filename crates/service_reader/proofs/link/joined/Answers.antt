use Rattle.std.proofs.Common.{sym, ap, ◌∙◌, Some, None}
use Rattle.url.specs.Parser.{parse_url}
use Rattle.feed_reader.specs.Feed.{based}
use Rattle.feed_reader.proofs.FeedLinkLemmas.{base_read, ok_mapped, url_read}
use Rattle.service_reader.proofs.link.joined.Goals as goal

pub returns : goal.returns
returns c =
    let expected = parse_url None c.args.address.now in
    let base = c.in-Some.base in
    let is = base_read c.parse.result expected c.in_ok-base.field-0 base c.parse.ensures c.in_ok-base.ensures
    c.in-Some.is in
    ok_mapped c.read_url-2.result
    (λ found h. url_read c.join.result (parse_url (Some base) c.args.reference.now) found c.join.ensures h
    ∙ sym (ap (λ k. based k c.args.reference.now) is))
    c.read_url-2.ensures
