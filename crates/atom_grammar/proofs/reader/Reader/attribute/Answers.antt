use Rattle.atom_grammar.specs.Items.{attribute}
use Rattle.atom_grammar.proofs.ShapeLemmas.{attribute_ends}
use Rattle.atom_grammar.proofs.ReadingLemmas.{stopped, alone_absent, alone_found, behind_found, behind_absent, behind_stuck, ended_found, ended_absent, ended_stuck}
use Rattle.atom_grammar.proofs.reader.Reader.attribute.Goals as goal

pub returns-in_err-literal : goal.returns-in_err-literal
returns-in_err-literal c =
    stopped _ (λ value. value) (attribute c.args.start.now) _ c.args.self.now.rest.now c.literal.new.self.rest.now _
    c.from_residual.result c.in_err-literal.ensures c.from_residual.ensures.1
    (λ none. alone_absent _ (attribute_ends c.args.start.now) _ (ended_absent _ _ _ (behind_absent _ _ _ none)))

pub returns-in_err-value : goal.returns-in_err-value
returns-in_err-value c =
    stopped _ (λ value. value) (attribute c.args.start.now) _ c.args.self.now.rest.now c.quoted.new.self.rest.now _
    c.from_residual-in_err-value.result c.in_err-value.ensures c.from_residual-in_err-value.ensures.1
    (λ none. alone_absent _ (attribute_ends c.args.start.now) _
    (ended_absent _ _ _ (behind_stuck _ _ _ _ c.in_ok-literal.ensures none)))

pub returns-in_err-literal-2 : goal.returns-in_err-literal-2
returns-in_err-literal-2 c =
    stopped _ (λ value. value) (attribute c.args.start.now) _ c.args.self.now.rest.now c.literal-2.new.self.rest.now _
    c.from_residual-in_err-literal-2.result c.in_err-literal-2.ensures c.from_residual-in_err-literal-2.ensures.1
    (λ none. alone_absent _ (attribute_ends c.args.start.now) _
    (ended_stuck _ _ _ _ _ (behind_found _ _ _ _ _ _ c.in_ok-literal.ensures c.in_ok-value.ensures) none))

pub returns : goal.returns
returns c =
    alone_found _ (attribute_ends c.args.start.now) _ _ _
    (ended_found _ _ _ _ _ _ (behind_found _ _ _ _ _ _ c.in_ok-literal.ensures c.in_ok-value.ensures)
    c.in_ok-literal-2.ensures)
