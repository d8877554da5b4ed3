use Rattle.member_rules.specs.FieldLists.{one}
use Rattle.atom_values.specs.Entry.{category_limit}
use Rattle.member_rules.specs.Fields.{listed, category}
use Rattle.member_rules.specs.EntryFields.{linked, persons, lists, lists_value}
use Rattle.member_rules.proofs.SequenceLemmas.{begun, then, one_read, stops_first, stopped_field, stopped_list}
use Rattle.member_rules.proofs.EntrySequences.{both_persons_sequence, linked_categories_sequence, linked_sequence, linked_stops, categories_sequence, categories_stops}
use Rattle.member_rules.proofs.codec.entry.read_lists.Goals as goal

pub returns-in_err-persons : goal.returns-in_err-persons
returns-in_err-persons c =
    let input = c.args.unread.now.rest.now in
    stopped_list persons lists_value lists _ _ input _ _ c.in_err-persons.ensures c.from_residual.ensures.1
    (λ stop. (begun lists input).stops _
    (stops_first persons _ (λ _ _. linked_categories_sequence) _ _
    stop))

pub returns-in_err-links : goal.returns-in_err-links
returns-in_err-links c =
    let input = c.args.unread.now.rest.now in
    stopped_field linked lists_value lists _ _ input _ _ c.in_err-links.ensures c.from_residual-in_err-links.ensures.1
    (λ none. (then persons _ both_persons_sequence (begun lists input)
    c.in_ok-persons.ensures).stops _
    (stops_first (one linked) _ (λ _ _. categories_sequence) _ _
    (linked_stops _ none)))

pub returns-in_err-categories : goal.returns-in_err-categories
returns-in_err-categories c =
    let input = c.args.unread.now.rest.now in
    stopped_field (listed category_limit category) lists_value lists _ _ input _ _ c.in_err-categories.ensures
    c.from_residual-in_err-categories.ensures.1
    (λ none. (then (one linked) _ linked_sequence (then persons _ both_persons_sequence (begun lists input)
    c.in_ok-persons.ensures)
    (one_read linked _ _ _ c.in_ok-links.ensures)).stops _
    (categories_stops _ none))

pub returns : goal.returns
returns c =
    let input = c.args.unread.now.rest.now in
    (then (one linked) _ linked_sequence (then persons _ both_persons_sequence (begun lists input)
    c.in_ok-persons.ensures)
    (one_read linked _ _ _ c.in_ok-links.ensures)).found _ _
    (one_read (listed category_limit category) _ _ _ c.in_ok-categories.ensures)
