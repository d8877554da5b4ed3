use Rattle.member_rules.specs.FieldLists.{one}
use Rattle.member_rules.specs.Fields.{stamp}
use Rattle.member_rules.specs.SettingFields.{settings, sets}
use Rattle.member_rules.proofs.EntrySequences.{stamp_sequence, stamp_stops}
use Rattle.member_rules.proofs.SequenceLemmas.{begun, then, one_read, stops_first, stopped_field, stopped_list}
use Rattle.member_rules.proofs.SettingLemmas.{settings_sequence}
use Rattle.member_rules.proofs.codec.operation.read_set.Goals as goal

pub returns-in_err-moment : goal.returns-in_err-moment
returns-in_err-moment c =
    let input = c.args.unread.now.rest.now in
    stopped_field stamp (λ s. s) sets _ _ input _ _ c.in_err-moment.ensures c.from_residual.ensures.1
    (λ none. (begun sets input).stops _
    (stops_first (one stamp) _ (λ _ _. settings_sequence) _ _ (stamp_stops _ none)))

pub returns-in_err-setting : goal.returns-in_err-setting
returns-in_err-setting c =
    let input = c.args.unread.now.rest.now in
    stopped_list settings (λ s. s) sets _ _ input _ _ c.in_err-setting.ensures
    c.from_residual-in_err-setting.ensures.1
    (λ stop. (then (one stamp) _ stamp_sequence (begun sets input) (one_read stamp _ _ _ c.in_ok-moment.ensures)).stops
    _ stop)

pub returns : goal.returns
returns c =
    let input = c.args.unread.now.rest.now in
    (then (one stamp) _ stamp_sequence (begun sets input) (one_read stamp _ _ _ c.in_ok-moment.ensures)).found _ _
    c.in_ok-setting.ensures
