use Rattle.member_rules.specs.FieldLists.{one}
use Rattle.atom_values.specs.Entry.{person_limit}
use Rattle.member_rules.specs.Fields.{listed, person}
use Rattle.member_rules.specs.EntryFields.{persons, persons_value}
use Rattle.member_rules.proofs.SequenceLemmas.{begun, then, one_read, stops_first, stopped_field}
use Rattle.member_rules.proofs.EntrySequences.{persons_sequence, persons_stops}
use Rattle.member_rules.proofs.codec.entry.read_persons.Goals as goal

pub returns-in_err-authors : goal.returns-in_err-authors
returns-in_err-authors c =
    let input = c.args.unread.now.rest.now in
    stopped_field (listed person_limit person) persons_value persons _ _ input _ _ c.in_err-authors.ensures
    c.from_residual.ensures.1
    (λ none. (begun persons input).stops _
    (stops_first (one (listed person_limit person)) _ (λ _ _. persons_sequence) _ _
    (persons_stops _ none)))

pub returns-in_err-contributors : goal.returns-in_err-contributors
returns-in_err-contributors c =
    let input = c.args.unread.now.rest.now in
    stopped_field (listed person_limit person) persons_value persons _ _ input _ _ c.in_err-contributors.ensures
    c.from_residual-in_err-contributors.ensures.1
    (λ none. (then (one (listed person_limit person)) _ persons_sequence (begun persons input)
    (one_read (listed person_limit person) _ _ _ c.in_ok-authors.ensures)).stops _
    (persons_stops _ none))

pub returns : goal.returns
returns c =
    let input = c.args.unread.now.rest.now in
    (then (one (listed person_limit person)) _ persons_sequence (begun persons input)
    (one_read (listed person_limit person) _ _ _ c.in_ok-authors.ensures)).found _ _
    (one_read (listed person_limit person) _ _ _ c.in_ok-contributors.ensures)
