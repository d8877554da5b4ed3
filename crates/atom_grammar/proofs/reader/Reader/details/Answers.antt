use Rattle.atom_grammar.specs.Items.{details}
use Rattle.atom_grammar.specs.EntryParts.{details_value}
use Rattle.atom_grammar.proofs.ReadingLemmas.{stopped, both_absent, begun, then}
use Rattle.atom_grammar.proofs.reader.Reader.details.Goals as goal

pub returns-in_err-links : goal.returns-in_err-links
returns-in_err-links c =
    stopped _ details_value details _ c.args.self.now.rest.now c.links.new.self.rest.now _ c.from_residual.result
    c.in_err-links.ensures c.from_residual.ensures.1
    (λ none. both_absent _ _ _ none)

pub returns-in_err-categories : goal.returns-in_err-categories
returns-in_err-categories c =
    stopped _ details_value details _ c.args.self.now.rest.now c.categories.new.self.rest.now _
    c.from_residual-in_err-categories.result
    c.in_err-categories.ensures c.from_residual-in_err-categories.ensures.1
    (λ none. (then (begun details c.args.self.now.rest.now) c.in_ok-links.ensures).absent (both_absent _ _ _ none))

pub returns-in_err-texts : goal.returns-in_err-texts
returns-in_err-texts c =
    stopped _ details_value details _ c.args.self.now.rest.now c.texts.new.self.rest.now _
    c.from_residual-in_err-texts.result
    c.in_err-texts.ensures c.from_residual-in_err-texts.ensures.1
    (λ none.
    (then (then (begun details c.args.self.now.rest.now) c.in_ok-links.ensures) c.in_ok-categories.ensures).absent
    none)

pub returns : goal.returns
returns c =
    (then (then (begun details c.args.self.now.rest.now) c.in_ok-links.ensures) c.in_ok-categories.ensures).found _ _
    c.in_ok-texts.ensures
