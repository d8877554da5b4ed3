use Rattle.member_rules.specs.FieldLists.{one}
use Rattle.member_rules.specs.Fields.{construct, optional, stamp}
use Rattle.member_rules.specs.EntryFields.{dates, front, front_value}
use Rattle.member_rules.proofs.SequenceLemmas.{begun, then, one_read, stops_first, stopped_field, stopped_list}
use Rattle.member_rules.proofs.EntrySequences.{dates_sequence, titled_sequence, construct_sequence, construct_stops, stamp_option_sequence, stamp_option_stops}
use Rattle.member_rules.proofs.codec.entry.read_front.Goals as goal

pub returns-in_err-dates : goal.returns-in_err-dates
returns-in_err-dates c =
    let input = c.args.unread.now.rest.now in
    stopped_list dates front_value front _ _ input _ _ c.in_err-dates.ensures c.from_residual.ensures.1
    (λ stop. (begun front input).stops _
    (stops_first dates _ (λ _ _. titled_sequence) _ _
    stop))

pub returns-in_err-title : goal.returns-in_err-title
returns-in_err-title c =
    let input = c.args.unread.now.rest.now in
    stopped_field construct front_value front _ _ input _ _ c.in_err-title.ensures
    c.from_residual-in_err-title.ensures.1
    (λ none. (then dates _ dates_sequence (begun front input)
    c.in_ok-dates.ensures).stops _
    (stops_first (one construct) _ (λ _ _. stamp_option_sequence) _ _
    (construct_stops _ none)))

pub returns-in_err-published : goal.returns-in_err-published
returns-in_err-published c =
    let input = c.args.unread.now.rest.now in
    stopped_field (optional stamp) front_value front _ _ input _ _ c.in_err-published.ensures
    c.from_residual-in_err-published.ensures.1
    (λ none. (then (one construct) _ construct_sequence (then dates _ dates_sequence (begun front input)
    c.in_ok-dates.ensures)
    (one_read construct _ _ _ c.in_ok-title.ensures)).stops _
    (stamp_option_stops _ none))

pub returns : goal.returns
returns c =
    let input = c.args.unread.now.rest.now in
    (then (one construct) _ construct_sequence (then dates _ dates_sequence (begun front input)
    c.in_ok-dates.ensures)
    (one_read construct _ _ _ c.in_ok-title.ensures)).found _ _
    (one_read (optional stamp) _ _ _ c.in_ok-published.ensures)
