use Rattle.member_rules.specs.EntryFields.{front, lists, texts, front_value, lists_value, texts_value, entries}
use Rattle.member_rules.proofs.SequenceLemmas.{then, stops_first, stopped_list}
use Rattle.member_rules.proofs.EntrySequences.{front_sequence, lists_sequence, texts_sequence, later_sequence, entry_begun, whole}
use Rattle.member_rules.proofs.codec.entry.read_entry.Goals as goal

pub returns-in_err-front : goal.returns-in_err-front
returns-in_err-front c =
    let input = c.args.unread.now.rest.now in
    stopped_list front (λ e. e) entries _ _ input _ _ c.in_err-front.ensures c.from_residual.ensures.1
    (λ stop. (entry_begun input).stops _ (stops_first front _ (λ _ _. later_sequence) _ _ stop))

pub returns-in_err-lists : goal.returns-in_err-lists
returns-in_err-lists c =
    let input = c.args.unread.now.rest.now in
    stopped_list lists (λ e. e) entries _ _ input _ _ c.in_err-lists.ensures c.from_residual-in_err-lists.ensures.1
    (λ stop. (then front _ front_sequence (entry_begun input) c.in_ok-front.ensures).stops _
    (stops_first lists _ (λ l _. texts_sequence l.1.0) _ _ stop))

pub returns-in_err-texts : goal.returns-in_err-texts
returns-in_err-texts c =
    let input = c.args.unread.now.rest.now in
    stopped_list (texts c.in_ok-lists.lists.links.items) (λ e. e) entries _ _ input _ _
    (rw c.as_slice.ensures.items at c.in_err-texts.ensures) c.from_residual-in_err-texts.ensures.1
    (λ stop. (then lists _ lists_sequence (then front _ front_sequence (entry_begun input) c.in_ok-front.ensures)
    c.in_ok-lists.ensures).stops _ stop)

pub put_together-requires : goal.put_together-requires
put_together-requires c =
    whole (front_value c.in_ok-front.front) (lists_value c.in_ok-lists.lists) (texts_value c.in_ok-texts.texts)
    c.in_ok-front.ensures.lawful c.in_ok-lists.ensures.lawful
    (rw c.as_slice.ensures.items at c.in_ok-texts.ensures).lawful

pub returns : goal.returns
returns c =
    let input = c.args.unread.now.rest.now in
    rw c.put_together.ensures
    ((then lists _ lists_sequence (then front _ front_sequence (entry_begun input) c.in_ok-front.ensures)
    c.in_ok-lists.ensures).found _ _ (rw c.as_slice.ensures.items at c.in_ok-texts.ensures))
