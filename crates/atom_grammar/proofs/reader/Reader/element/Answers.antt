use Rattle.atom_grammar.specs.Items.{element}
use Rattle.atom_grammar.proofs.ShapeLemmas.{element_ends, end_tag}
use Rattle.atom_grammar.proofs.ReadingLemmas.{stopped, alone_absent, alone_found, behind_found, behind_absent, behind_stuck, ended_found, ended_absent, ended_stuck}
use Rattle.atom_grammar.proofs.reader.Reader.element.Goals as goal

pub returns-in_err-literal : goal.returns-in_err-literal
returns-in_err-literal c =
    stopped _ (λ value. value) (element c.args.start.now c.args.end.now) _ c.args.self.now.rest.now
    c.literal.new.self.rest.now _ c.from_residual.result c.in_err-literal.ensures c.from_residual.ensures.1
    (λ none. alone_absent _ (element_ends c.args.start.now c.args.end.now (end_tag c.args.end.now c.requires)) _
    (ended_absent _ _ _ (behind_absent _ _ _ none)))

pub returns-in_err-text : goal.returns-in_err-text
returns-in_err-text c =
    stopped _ (λ value. value) (element c.args.start.now c.args.end.now) _ c.args.self.now.rest.now
    c.content.new.self.rest.now _ c.from_residual-in_err-text.result c.in_err-text.ensures
    c.from_residual-in_err-text.ensures.1
    (λ none. alone_absent _ (element_ends c.args.start.now c.args.end.now (end_tag c.args.end.now c.requires)) _
    (ended_absent _ _ _ (behind_stuck _ _ _ _ c.in_ok-literal.ensures none)))

pub returns-in_err-literal-2 : goal.returns-in_err-literal-2
returns-in_err-literal-2 c =
    stopped _ (λ value. value) (element c.args.start.now c.args.end.now) _ c.args.self.now.rest.now
    c.literal-2.new.self.rest.now _ c.from_residual-in_err-literal-2.result c.in_err-literal-2.ensures
    c.from_residual-in_err-literal-2.ensures.1
    (λ none. alone_absent _ (element_ends c.args.start.now c.args.end.now (end_tag c.args.end.now c.requires)) _
    (ended_stuck _ _ _ _ _ (behind_found _ _ _ _ _ _ c.in_ok-literal.ensures c.in_ok-text.ensures) none))

pub returns : goal.returns
returns c =
    alone_found _ (element_ends c.args.start.now c.args.end.now (end_tag c.args.end.now c.requires)) _ _ _
    (ended_found _ _ _ _ _ _ (behind_found _ _ _ _ _ _ c.in_ok-literal.ensures c.in_ok-text.ensures)
    c.in_ok-literal-2.ensures)
