use Rattle.member_rules.specs.FieldLists.{one}
use Rattle.member_rules.specs.Fields.{optional, construct}
use Rattle.member_rules.specs.EntryFields.{contents, texts, texts_value}
use Rattle.member_rules.proofs.SequenceLemmas.{begun, then, one_read, stops_first, stopped_field}
use Rattle.member_rules.proofs.EntrySequences.{construct_option_sequence, construct_option_stops, summary_sequence, contents_sequence, contents_stops}
use Rattle.member_rules.proofs.codec.entry.read_texts.Goals as goal

pub returns-in_err-rights : goal.returns-in_err-rights
returns-in_err-rights c =
    let input = c.args.unread.now.rest.now in
    let of = c.args.links.now in
    stopped_field (optional construct) texts_value
    (texts of) _ _ input _ _ c.in_err-rights.ensures c.from_residual.ensures.1
    (λ none. (begun (texts of) input).stops _
    (stops_first (one (optional construct)) _ (λ _ _. summary_sequence of) _ _
    (construct_option_stops _ none)))

pub returns-in_err-summary : goal.returns-in_err-summary
returns-in_err-summary c =
    let input = c.args.unread.now.rest.now in
    let of = c.args.links.now in
    stopped_field (optional construct) texts_value
    (texts of) _ _ input _ _ c.in_err-summary.ensures c.from_residual-in_err-summary.ensures.1
    (λ none. (then (one (optional construct)) _ construct_option_sequence (begun (texts of) input)
    (one_read (optional construct) _ _ _ c.in_ok-rights.ensures)).stops _
    (stops_first (one (optional construct)) _ (λ _ _. contents_sequence of) _ _
    (construct_option_stops _ none)))

pub returns-in_err-content : goal.returns-in_err-content
returns-in_err-content c =
    let input = c.args.unread.now.rest.now in
    let of = c.args.links.now in
    stopped_field (contents of) texts_value
    (texts of) _ _ input _ _ c.in_err-content.ensures c.from_residual-in_err-content.ensures.1
    (λ none. (then (one (optional construct)) _ construct_option_sequence (then (one
    (optional construct)) _ construct_option_sequence (begun (texts of) input)
    (one_read (optional construct) _ _ _ c.in_ok-rights.ensures))
    (one_read (optional construct) _ _ _ c.in_ok-summary.ensures)).stops _
    (contents_stops of _ none))

pub returns : goal.returns
returns c =
    let input = c.args.unread.now.rest.now in
    let of = c.args.links.now in
    (then (one (optional construct)) _ construct_option_sequence (then (one
    (optional construct)) _ construct_option_sequence (begun (texts of) input)
    (one_read (optional construct) _ _ _ c.in_ok-rights.ensures))
    (one_read (optional construct) _ _ _ c.in_ok-summary.ensures)).found _ _
    (one_read (contents of) _ _ _ c.in_ok-content.ensures)
