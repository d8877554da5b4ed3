use Rattle.member_rules.specs.FieldLists.{one}
use Rattle.member_rules.specs.HeadFields.{window, capacity, created, settings, settings_value}
use Rattle.member_rules.proofs.SequenceLemmas.{begun, then, one_read, stops_first, stopped_field}
use Rattle.member_rules.proofs.HeadLemmas.{window_sequence, window_stops, limits_sequence, capacity_sequence, capacity_stops, created_sequence, created_stops}
use Rattle.member_rules.proofs.codec.head.read_settings.Goals as goal

pub returns-in_err-window : goal.returns-in_err-window
returns-in_err-window c =
    let input = c.args.unread.now.rest.now in
    stopped_field window settings_value settings _ _ input _ _ c.in_err-window.ensures c.from_residual.ensures.1
    (λ none. (begun settings input).stops _
    (stops_first (one window) _ (λ _ _. limits_sequence) _ _
    (window_stops _ none)))

pub returns-in_err-capacity : goal.returns-in_err-capacity
returns-in_err-capacity c =
    let input = c.args.unread.now.rest.now in
    stopped_field capacity settings_value settings _ _ input _ _ c.in_err-capacity.ensures
    c.from_residual-in_err-capacity.ensures.1
    (λ none. (then (one window) _ window_sequence (begun settings input)
    (one_read window _ _ _ c.in_ok-window.ensures)).stops _
    (stops_first (one capacity) _ (λ _ _. created_sequence) _ _
    (capacity_stops _ none)))

pub returns-in_err-created : goal.returns-in_err-created
returns-in_err-created c =
    let input = c.args.unread.now.rest.now in
    stopped_field created settings_value settings _ _ input _ _ c.in_err-created.ensures
    c.from_residual-in_err-created.ensures.1
    (λ none. (then (one capacity) _ capacity_sequence (then (one window) _ window_sequence (begun settings input)
    (one_read window _ _ _ c.in_ok-window.ensures))
    (one_read capacity _ _ _ c.in_ok-capacity.ensures)).stops _
    (created_stops _ none))

pub returns : goal.returns
returns c =
    let input = c.args.unread.now.rest.now in
    (then (one capacity) _ capacity_sequence (then (one window) _ window_sequence (begun settings input)
    (one_read window _ _ _ c.in_ok-window.ensures))
    (one_read capacity _ _ _ c.in_ok-capacity.ensures)).found _ _
    (one_read created _ _ _ c.in_ok-created.ensures)
