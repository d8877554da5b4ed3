use Rattle.member_rules.specs.Fields.{counted, stamp}
use Rattle.member_rules.specs.FieldLists.{one}
use Rattle.member_rules.specs.RemovalFields.{removals, stamp_from}
use Rattle.member_rules.proofs.EntrySequences.{counted_sequence, counted_stops, stamp_sequence, stamp_stops}
use Rattle.member_rules.proofs.OperationLemmas.{removal_begun, moments_sequence, moment_tail, from_stops}
use Rattle.member_rules.proofs.SequenceLemmas.{then, one_read, stops_first, stopped_field}
use Rattle.member_rules.proofs.codec.operation.read_removal.Goals as goal

pub returns-in_err-number : goal.returns-in_err-number
returns-in_err-number c =
    let input = c.args.unread.now.rest.now in
    stopped_field counted (λ r. r) removals _ _ input _ _ c.in_err-number.ensures c.from_residual.ensures.1
    (λ none. (removal_begun input).stops _
    (stops_first (one counted) _ (λ _ _. moments_sequence) _ _ (counted_stops _ none)))

pub returns-in_err-moment : goal.returns-in_err-moment
returns-in_err-moment c =
    let input = c.args.unread.now.rest.now in
    stopped_field stamp (λ r. r) removals _ _ input _ _ c.in_err-moment.ensures c.from_residual-in_err-moment.ensures.1
    (λ none.
    (then (one counted) _ counted_sequence (removal_begun input) (one_read counted _ _ _ c.in_ok-number.ensures)).stops
    _ (stops_first (one stamp) _ moment_tail _ _ (stamp_stops _ none)))

pub returns-in_err-when : goal.returns-in_err-when
returns-in_err-when c =
    let input = c.args.unread.now.rest.now in
    stopped_field (stamp_from c.in_ok-moment.moment) (λ r. r) removals _ _ input _ _ c.in_err-when.ensures
    c.from_residual-in_err-when.ensures.1
    (λ none. (then (one stamp) _ stamp_sequence
    (then (one counted) _ counted_sequence (removal_begun input) (one_read counted _ _ _ c.in_ok-number.ensures))
    (one_read stamp _ _ _ c.in_ok-moment.ensures)).stops
    _ (from_stops c.in_ok-moment.moment c.in_ok-moment.ensures.lawful _ none))

pub invariant_of-result : goal.invariant_of-result
unfolding counted
invariant_of-result c = c.in_ok-number.ensures.lawful.0

pub invariant_of-result-2 : goal.invariant_of-result-2
unfolding stamp_from
invariant_of-result-2 c = c.in_ok-when.ensures.lawful.1

pub returns : goal.returns
returns c =
    let input = c.args.unread.now.rest.now in
    (then (one stamp) _ stamp_sequence
    (then (one counted) _ counted_sequence (removal_begun input) (one_read counted _ _ _ c.in_ok-number.ensures))
    (one_read stamp _ _ _ c.in_ok-moment.ensures)).found _ _
    (one_read (stamp_from c.in_ok-moment.moment) _ _ _ c.in_ok-when.ensures)
