use Rattle.atom_grammar.specs.Items.{front}
use Rattle.atom_grammar.specs.EntryParts.{front_value}
use Rattle.atom_grammar.proofs.ReadingLemmas.{stopped, both_absent, begun, then}
use Rattle.atom_grammar.proofs.reader.Reader.front.Goals as goal

pub returns-in_err-number : goal.returns-in_err-number
returns-in_err-number c =
    stopped _ front_value (front c.args.name.now) _ c.args.self.now.rest.now c.identifier.new.self.rest.now _
    c.from_residual.result
    c.in_err-number.ensures c.from_residual.ensures.1
    (λ none. both_absent _ _ _ none)

pub returns-in_err-title : goal.returns-in_err-title
returns-in_err-title c =
    stopped _ front_value (front c.args.name.now) _ c.args.self.now.rest.now c.construct.new.self.rest.now _
    c.from_residual-in_err-title.result
    c.in_err-title.ensures c.from_residual-in_err-title.ensures.1
    (λ none. (then (begun (front c.args.name.now) c.args.self.now.rest.now) c.in_ok-number.ensures).absent
    (both_absent _ _ _ none))

pub returns-in_err-dates : goal.returns-in_err-dates
returns-in_err-dates c =
    stopped _ front_value (front c.args.name.now) _ c.args.self.now.rest.now c.dates.new.self.rest.now _
    c.from_residual-in_err-dates.result
    c.in_err-dates.ensures c.from_residual-in_err-dates.ensures.1
    (λ none.
    (then (then (begun (front c.args.name.now) c.args.self.now.rest.now) c.in_ok-number.ensures)
    c.in_ok-title.ensures).absent none)

pub returns : goal.returns
returns c =
    (then (then (begun (front c.args.name.now) c.args.self.now.rest.now) c.in_ok-number.ensures)
    c.in_ok-title.ensures).found _ _ c.in_ok-dates.ensures
