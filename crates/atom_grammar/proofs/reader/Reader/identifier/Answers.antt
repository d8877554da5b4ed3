use Rattle.atom_grammar.specs.Items.{identifier}
use Rattle.atom_grammar.proofs.ReadingLemmas.{stopped, behind_found, behind_absent, behind_stuck, ended_found, ended_absent, ended_stuck}
use Rattle.atom_grammar.proofs.reader.Reader.identifier.Goals as goal

pub returns-in_err-literal : goal.returns-in_err-literal
returns-in_err-literal c =
    stopped _ (λ value. value) (identifier c.args.name.now) _ c.args.self.now.rest.now c.literal.new.self.rest.now _
    c.from_residual.result
    c.in_err-literal.ensures c.from_residual.ensures.1
    (λ none. ended_absent _ _ _ (behind_absent _ _ _ none))

pub returns-in_err-number : goal.returns-in_err-number
returns-in_err-number c =
    stopped _ (λ value. value) (identifier c.args.name.now) _ c.args.self.now.rest.now c.member.new.self.rest.now _
    c.from_residual-in_err-number.result
    c.in_err-number.ensures c.from_residual-in_err-number.ensures.1
    (λ none. ended_absent _ _ _ (behind_stuck _ _ _ _ c.in_ok-literal.ensures none))

pub returns-in_err-literal-2 : goal.returns-in_err-literal-2
returns-in_err-literal-2 c =
    stopped _ (λ value. value) (identifier c.args.name.now) _ c.args.self.now.rest.now c.literal-2.new.self.rest.now _
    c.from_residual-in_err-literal-2.result
    c.in_err-literal-2.ensures c.from_residual-in_err-literal-2.ensures.1
    (λ none. ended_stuck _ _ _ _ _ (behind_found _ _ _ _ _ _ c.in_ok-literal.ensures c.in_ok-number.ensures) none)

pub returns : goal.returns
returns c =
    ended_found _ _ _ _ _ _ (behind_found _ _ _ _ _ _ c.in_ok-literal.ensures c.in_ok-number.ensures)
    c.in_ok-literal-2.ensures
