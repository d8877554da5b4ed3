use Rattle.atom_grammar.specs.Items.{texts}
use Rattle.atom_grammar.specs.EntryParts.{texts_value}
use Rattle.atom_grammar.proofs.ReadingLemmas.{stopped, both_absent, begun, then}
use Rattle.atom_grammar.proofs.reader.Reader.texts.Goals as goal

pub returns-in_err-rights : goal.returns-in_err-rights
returns-in_err-rights c =
    stopped _ texts_value texts _ c.args.self.now.rest.now c.optional_construct.new.self.rest.now _
    c.from_residual.result
    c.in_err-rights.ensures c.from_residual.ensures.1
    (λ none. both_absent _ _ _ none)

pub returns-in_err-summary : goal.returns-in_err-summary
returns-in_err-summary c =
    stopped _ texts_value texts _ c.args.self.now.rest.now c.optional_construct-2.new.self.rest.now _
    c.from_residual-in_err-summary.result
    c.in_err-summary.ensures c.from_residual-in_err-summary.ensures.1
    (λ none. (then (begun texts c.args.self.now.rest.now) c.in_ok-rights.ensures).absent (both_absent _ _ _ none))

pub returns-in_err-content : goal.returns-in_err-content
returns-in_err-content c =
    stopped _ texts_value texts _ c.args.self.now.rest.now c.optional_construct-3.new.self.rest.now _
    c.from_residual-in_err-content.result
    c.in_err-content.ensures c.from_residual-in_err-content.ensures.1
    (λ none.
    (then (then (begun texts c.args.self.now.rest.now) c.in_ok-rights.ensures) c.in_ok-summary.ensures).absent
    none)

pub returns : goal.returns
returns c =
    (then (then (begun texts c.args.self.now.rest.now) c.in_ok-rights.ensures) c.in_ok-summary.ensures).found _ _
    c.in_ok-content.ensures
