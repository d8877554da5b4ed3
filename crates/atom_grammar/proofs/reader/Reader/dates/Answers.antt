use Rattle.atom_grammar.specs.Items.{dates}
use Rattle.atom_grammar.specs.EntryParts.{dates_value}
use Rattle.atom_grammar.proofs.ReadingLemmas.{stopped, both_absent, begun, then}
use Rattle.atom_grammar.proofs.reader.Reader.dates.Goals as goal

pub returns-in_err-updated : goal.returns-in_err-updated
returns-in_err-updated c =
    stopped _ dates_value dates _ c.args.self.now.rest.now c.date.new.self.rest.now _ c.from_residual.result
    c.in_err-updated.ensures c.from_residual.ensures.1
    (λ none. both_absent _ _ _ none)

pub returns-in_err-published : goal.returns-in_err-published
returns-in_err-published c =
    stopped _ dates_value dates _ c.args.self.now.rest.now c.optional_date.new.self.rest.now _
    c.from_residual-in_err-published.result
    c.in_err-published.ensures c.from_residual-in_err-published.ensures.1
    (λ none. (then (begun dates c.args.self.now.rest.now) c.in_ok-updated.ensures).absent (both_absent _ _ _ none))

pub returns-in_err-edited : goal.returns-in_err-edited
returns-in_err-edited c =
    stopped _ dates_value dates _ c.args.self.now.rest.now c.date-2.new.self.rest.now _
    c.from_residual-in_err-edited.result
    c.in_err-edited.ensures c.from_residual-in_err-edited.ensures.1
    (λ none.
    (then (then (begun dates c.args.self.now.rest.now) c.in_ok-updated.ensures) c.in_ok-published.ensures).absent
    none)

pub returns : goal.returns
returns c =
    (then (then (begun dates c.args.self.now.rest.now) c.in_ok-updated.ensures) c.in_ok-published.ensures).found _ _
    c.in_ok-edited.ensures
