use Rattle.member_rules.proofs.FieldLemmas.{pair_absent, stopped, text_one, then}
use Rattle.member_rules.proofs.PartLemmas.{link_begun, option_one}
use Rattle.member_rules.proofs.codec.parts.LinkCoded.read.Goals as goal
use Rattle.member_rules.specs.Fields.{link, optional, text}

pub returns-in_err-href : goal.returns-in_err-href
returns-in_err-href c =
    let input = c.args.unread.now.rest.now in
    stopped text _ link _ _ input _ _ c.in_err-href.ensures c.from_residual.ensures.1
    (λ none. (link_begun input).absent (pair_absent _ _ _ none))

pub returns-in_err-rel : goal.returns-in_err-rel
returns-in_err-rel c =
    let input = c.args.unread.now.rest.now in
    let after_href = then text_one (link_begun input) c.in_ok-href.ensures in
    stopped text _ link _ _ input _ _ c.in_err-rel.ensures c.from_residual-in_err-rel.ensures.1
    (λ none. after_href.absent (pair_absent _ _ _ none))

pub returns-in_err-media : goal.returns-in_err-media
returns-in_err-media c =
    let input = c.args.unread.now.rest.now in
    let after_href = then text_one (link_begun input) c.in_ok-href.ensures in
    let after_rel = then text_one after_href c.in_ok-rel.ensures in
    stopped (optional text) _ link _ _ input _ _ c.in_err-media.ensures c.from_residual-in_err-media.ensures.1
    (λ none. after_rel.absent (pair_absent _ _ _ none))

pub returns-in_err-hreflang : goal.returns-in_err-hreflang
returns-in_err-hreflang c =
    let input = c.args.unread.now.rest.now in
    let after_href = then text_one (link_begun input) c.in_ok-href.ensures in
    let after_rel = then text_one after_href c.in_ok-rel.ensures in
    let after_media = then option_one after_rel c.in_ok-media.ensures in
    stopped (optional text) _ link _ _ input _ _ c.in_err-hreflang.ensures c.from_residual-in_err-hreflang.ensures.1
    (λ none. after_media.absent (pair_absent _ _ _ none))

pub returns-in_err-title : goal.returns-in_err-title
returns-in_err-title c =
    let input = c.args.unread.now.rest.now in
    let after_href = then text_one (link_begun input) c.in_ok-href.ensures in
    let after_rel = then text_one after_href c.in_ok-rel.ensures in
    let after_media = then option_one after_rel c.in_ok-media.ensures in
    let after_hreflang = then option_one after_media c.in_ok-hreflang.ensures in
    stopped (optional text) _ link _ _ input _ _ c.in_err-title.ensures c.from_residual-in_err-title.ensures.1
    (λ none. after_hreflang.absent (pair_absent _ _ _ none))

pub returns-in_err-length : goal.returns-in_err-length
returns-in_err-length c =
    let input = c.args.unread.now.rest.now in
    let after_href = then text_one (link_begun input) c.in_ok-href.ensures in
    let after_rel = then text_one after_href c.in_ok-rel.ensures in
    let after_media = then option_one after_rel c.in_ok-media.ensures in
    let after_hreflang = then option_one after_media c.in_ok-hreflang.ensures in
    let after_title = then option_one after_hreflang c.in_ok-title.ensures in
    stopped (optional text) _ link _ _ input _ _ c.in_err-length.ensures c.from_residual-in_err-length.ensures.1
    after_title.absent

pub returns : goal.returns
returns c =
    let input = c.args.unread.now.rest.now in
    let after_href = then text_one (link_begun input) c.in_ok-href.ensures in
    let after_rel = then text_one after_href c.in_ok-rel.ensures in
    let after_media = then option_one after_rel c.in_ok-media.ensures in
    let after_hreflang = then option_one after_media c.in_ok-hreflang.ensures in
    let after_title = then option_one after_hreflang c.in_ok-title.ensures in
    after_title.found _ _ c.in_ok-length.ensures
