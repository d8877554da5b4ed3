use Rattle.atom_grammar.specs.Items.{back}
use Rattle.atom_grammar.specs.EntryParts.{back_value}
use Rattle.atom_grammar.proofs.ReadingLemmas.{stopped, both_absent, begun, then}
use Rattle.atom_grammar.proofs.reader.Reader.back.Goals as goal

pub returns-in_err-contributors : goal.returns-in_err-contributors
returns-in_err-contributors c =
    stopped _ back_value (back c.args.name.now) _ c.args.self.now.rest.now c.persons.new.self.rest.now _
    c.from_residual.result
    c.in_err-contributors.ensures c.from_residual.ensures.1
    (λ none. both_absent _ _ _ none)

pub returns-in_err-edit : goal.returns-in_err-edit
returns-in_err-edit c =
    stopped _ back_value (back c.args.name.now) _ c.args.self.now.rest.now c.editing.new.self.rest.now _
    c.from_residual-in_err-edit.result
    c.in_err-edit.ensures c.from_residual-in_err-edit.ensures.1
    (λ none. (then (begun (back c.args.name.now) c.args.self.now.rest.now) c.in_ok-contributors.ensures).absent
    (both_absent _ _ _ none))

pub returns-in_err-details : goal.returns-in_err-details
returns-in_err-details c =
    stopped _ back_value (back c.args.name.now) _ c.args.self.now.rest.now c.details.new.self.rest.now _
    c.from_residual-in_err-details.result
    c.in_err-details.ensures c.from_residual-in_err-details.ensures.1
    (λ none.
    (then (then (begun (back c.args.name.now) c.args.self.now.rest.now) c.in_ok-contributors.ensures)
    c.in_ok-edit.ensures).absent none)

pub returns : goal.returns
returns c =
    (then (then (begun (back c.args.name.now) c.args.self.now.rest.now) c.in_ok-contributors.ensures)
    c.in_ok-edit.ensures).found _ _ c.in_ok-details.ensures
