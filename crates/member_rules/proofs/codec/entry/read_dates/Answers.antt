use Rattle.member_rules.specs.FieldLists.{one}
use Rattle.member_rules.specs.Fields.{counted, stamp}
use Rattle.member_rules.specs.EntryFields.{dates, dates_value}
use Rattle.member_rules.proofs.SequenceLemmas.{begun, then, one_read, stops_first, stopped_field}
use Rattle.member_rules.proofs.EntrySequences.{counted_sequence, counted_stops, stamp_sequence, stamp_stops, stamps_sequence}
use Rattle.member_rules.proofs.codec.entry.read_dates.Goals as goal

pub returns-in_err-number : goal.returns-in_err-number
returns-in_err-number c =
    let input = c.args.unread.now.rest.now in
    stopped_field counted dates_value dates _ _ input _ _ c.in_err-number.ensures c.from_residual.ensures.1
    (λ none. (begun dates input).stops _
    (stops_first (one counted) _ (λ _ _. stamps_sequence) _ _
    (counted_stops _ none)))

pub returns-in_err-edited : goal.returns-in_err-edited
returns-in_err-edited c =
    let input = c.args.unread.now.rest.now in
    stopped_field stamp dates_value dates _ _ input _ _ c.in_err-edited.ensures c.from_residual-in_err-edited.ensures.1
    (λ none. (then (one counted) _ counted_sequence (begun dates input)
    (one_read counted _ _ _ c.in_ok-number.ensures)).stops _
    (stops_first (one stamp) _ (λ _ _. stamp_sequence) _ _
    (stamp_stops _ none)))

pub returns-in_err-updated : goal.returns-in_err-updated
returns-in_err-updated c =
    let input = c.args.unread.now.rest.now in
    stopped_field stamp dates_value dates _ _ input _ _ c.in_err-updated.ensures
    c.from_residual-in_err-updated.ensures.1
    (λ none. (then (one stamp) _ stamp_sequence (then (one counted) _ counted_sequence (begun dates input)
    (one_read counted _ _ _ c.in_ok-number.ensures))
    (one_read stamp _ _ _ c.in_ok-edited.ensures)).stops _
    (stamp_stops _ none))

pub returns : goal.returns
returns c =
    let input = c.args.unread.now.rest.now in
    (then (one stamp) _ stamp_sequence (then (one counted) _ counted_sequence (begun dates input)
    (one_read counted _ _ _ c.in_ok-number.ensures))
    (one_read stamp _ _ _ c.in_ok-edited.ensures)).found _ _
    (one_read stamp _ _ _ c.in_ok-updated.ensures)
