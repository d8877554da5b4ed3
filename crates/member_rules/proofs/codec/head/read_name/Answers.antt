use Rattle.member_rules.specs.FieldLists.{one}
use Rattle.member_rules.specs.HeadFields.{base, feed_id, titles, name_parts, name_value}
use Rattle.member_rules.proofs.SequenceLemmas.{begun, then, one_read, stops_first, stopped_field, stopped_list}
use Rattle.member_rules.proofs.HeadLemmas.{base_sequence, base_stops, id_titles_sequence, feed_id_sequence, feed_id_stops, titles_sequence}
use Rattle.member_rules.proofs.codec.head.read_name.Goals as goal

pub returns-in_err-base : goal.returns-in_err-base
returns-in_err-base c =
    let input = c.args.unread.now.rest.now in
    stopped_field base name_value name_parts _ _ input _ _ c.in_err-base.ensures c.from_residual.ensures.1
    (λ none. (begun name_parts input).stops _
    (stops_first (one base) _ (λ _ _. id_titles_sequence) _ _
    (base_stops _ none)))

pub returns-in_err-id : goal.returns-in_err-id
returns-in_err-id c =
    let input = c.args.unread.now.rest.now in
    stopped_field feed_id name_value name_parts _ _ input _ _ c.in_err-id.ensures c.from_residual-in_err-id.ensures.1
    (λ none. (then (one base) _ base_sequence (begun name_parts input)
    (one_read base _ _ _ c.in_ok-base.ensures)).stops _
    (stops_first (one feed_id) _ (λ _ _. titles_sequence) _ _
    (feed_id_stops _ none)))

pub returns-in_err-titles : goal.returns-in_err-titles
returns-in_err-titles c =
    let input = c.args.unread.now.rest.now in
    stopped_list titles name_value name_parts _ _ input _ _ c.in_err-titles.ensures
    c.from_residual-in_err-titles.ensures.1
    (λ stop. (then (one feed_id) _ feed_id_sequence (then (one base) _ base_sequence (begun name_parts input)
    (one_read base _ _ _ c.in_ok-base.ensures))
    (one_read feed_id _ _ _ c.in_ok-id.ensures)).stops _
    stop)

pub returns : goal.returns
returns c =
    let input = c.args.unread.now.rest.now in
    rw (c.into_text.ensures.text, c.into_text-2.ensures.text)
    ((then (one feed_id) _ feed_id_sequence (then (one base) _ base_sequence (begun name_parts input)
    (one_read base _ _ _ c.in_ok-base.ensures))
    (one_read feed_id _ _ _ c.in_ok-id.ensures)).found _ _
    c.in_ok-titles.ensures)
