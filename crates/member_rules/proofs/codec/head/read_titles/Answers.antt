use Rattle.member_rules.specs.FieldLists.{one}
use Rattle.member_rules.specs.HeadFields.{title, titles, titles_value}
use Rattle.member_rules.proofs.SequenceLemmas.{begun, then, one_read, stops_first, stopped_field}
use Rattle.member_rules.proofs.HeadLemmas.{title_sequence, title_stops}
use Rattle.member_rules.proofs.codec.head.read_titles.Goals as goal

pub returns-in_err-title : goal.returns-in_err-title
returns-in_err-title c =
    let input = c.args.unread.now.rest.now in
    stopped_field title titles_value titles _ _ input _ _ c.in_err-title.ensures c.from_residual.ensures.1
    (λ none. (begun titles input).stops _
    (stops_first (one title) _ (λ _ _. title_sequence) _ _
    (title_stops _ none)))

pub returns-in_err-author : goal.returns-in_err-author
returns-in_err-author c =
    let input = c.args.unread.now.rest.now in
    stopped_field title titles_value titles _ _ input _ _ c.in_err-author.ensures
    c.from_residual-in_err-author.ensures.1
    (λ none. (then (one title) _ title_sequence (begun titles input)
    (one_read title _ _ _ c.in_ok-title.ensures)).stops _
    (title_stops _ none))

pub returns : goal.returns
returns c =
    let input = c.args.unread.now.rest.now in
    (then (one title) _ title_sequence (begun titles input)
    (one_read title _ _ _ c.in_ok-title.ensures)).found _ _
    (one_read title _ _ _ c.in_ok-author.ensures)
