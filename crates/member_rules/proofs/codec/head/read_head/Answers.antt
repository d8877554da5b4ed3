use Rattle.member_rules.specs.Coding.{heads}
use Rattle.member_rules.specs.FieldLists.{one}
use Rattle.member_rules.specs.HeadFields.{format, name_parts, settings, name_value, settings_value}
use Rattle.member_rules.proofs.SequenceLemmas.{then, one_read, stops_first, stopped_field, stopped_list}
use Rattle.member_rules.proofs.HeadLemmas.{format_sequence, format_stops, name_sequence, name_settings_sequence, settings_sequence, head_begun, head_rules}
use Rattle.member_rules.proofs.codec.head.read_head.Goals as goal

pub returns-in_err-format : goal.returns-in_err-format
returns-in_err-format c =
    let input = c.args.unread.now.rest.now in
    stopped_field format (λ h. h) heads _ _ input _ _ c.in_err-format.ensures c.from_residual.ensures.1
    (λ none. (head_begun input).stops _
    (stops_first (one format) _ (λ _ _. name_settings_sequence) _ _
    (format_stops _ none)))

pub returns-in_err-name : goal.returns-in_err-name
returns-in_err-name c =
    let input = c.args.unread.now.rest.now in
    stopped_list name_parts (λ h. h) heads _ _ input _ _ c.in_err-name.ensures c.from_residual-in_err-name.ensures.1
    (λ stop. (then (one format) _ format_sequence (head_begun input)
    (one_read format _ _ _ c.in_ok-format.ensures)).stops _
    (stops_first name_parts _ (λ _ _. settings_sequence) _ _
    stop))

pub returns-in_err-settings : goal.returns-in_err-settings
returns-in_err-settings c =
    let input = c.args.unread.now.rest.now in
    stopped_list settings (λ h. h) heads _ _ input _ _ c.in_err-settings.ensures
    c.from_residual-in_err-settings.ensures.1
    (λ stop. (then name_parts _ name_sequence (then (one format) _ format_sequence (head_begun input)
    (one_read format _ _ _ c.in_ok-format.ensures))
    c.in_ok-name.ensures).stops _
    stop)

pub returns : goal.returns
returns c =
    let input = c.args.unread.now.rest.now in
    rw c.get.ensures.size
    ((then name_parts _ name_sequence (then (one format) _ format_sequence (head_begun input)
    (one_read format _ _ _ c.in_ok-format.ensures))
    c.in_ok-name.ensures).found _ _
    c.in_ok-settings.ensures)

pub invariant_of-result : goal.invariant_of-result
invariant_of-result c =
    rw c.get.ensures.size
    (head_rules c.in_ok-format.format (name_value c.in_ok-name.name) (settings_value c.in_ok-settings.settings)
    c.in_ok-format.ensures.lawful c.in_ok-name.ensures.lawful c.in_ok-settings.ensures.lawful).limits
