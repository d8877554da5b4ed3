use Rattle.atom_grammar.specs.Items.{category}
use Rattle.atom_grammar.proofs.ShapeLemmas.{category_renames}
use Rattle.atom_grammar.proofs.ReadingLemmas.{stopped, renamed_absent, renamed_found, behind_found, behind_absent, behind_stuck, ended_found, ended_absent, ended_stuck, both_found, both_absent, both_stuck}
use Rattle.atom_grammar.proofs.reader.Reader.category.Goals as goal

pub returns-in_err-literal : goal.returns-in_err-literal
returns-in_err-literal c =
    stopped _ (λ value. value) category _ c.args.self.now.rest.now c.literal.new.self.rest.now _
    c.from_residual.result c.in_err-literal.ensures c.from_residual.ensures.1
    (λ none. renamed_absent _ _ _ _ _ category_renames _
    (ended_absent _ _ _ (both_absent _ _ _ (both_absent _ _ _ (behind_absent _ _ _ none)))))

pub returns-in_err-term : goal.returns-in_err-term
returns-in_err-term c =
    stopped _ (λ value. value) category _ c.args.self.now.rest.now c.attribute.new.self.rest.now _
    c.from_residual-in_err-term.result c.in_err-term.ensures c.from_residual-in_err-term.ensures.1
    (λ none. renamed_absent _ _ _ _ _ category_renames _
    (ended_absent _ _ _
    (both_absent _ _ _ (both_absent _ _ _ (behind_stuck _ _ _ _ c.in_ok-literal.ensures none)))))

pub returns-in_err-scheme : goal.returns-in_err-scheme
returns-in_err-scheme c =
    stopped _ (λ value. value) category _ c.args.self.now.rest.now c.optional_attribute.new.self.rest.now _
    c.from_residual-in_err-scheme.result c.in_err-scheme.ensures c.from_residual-in_err-scheme.ensures.1
    (λ none. renamed_absent _ _ _ _ _ category_renames _
    (ended_absent _ _ _
    (both_absent _ _ _
    (both_stuck _ _ _ _ _ (behind_found _ _ _ _ _ _ c.in_ok-literal.ensures c.in_ok-term.ensures) none))))

pub returns-in_err-label : goal.returns-in_err-label
returns-in_err-label c =
    stopped _ (λ value. value) category _ c.args.self.now.rest.now c.optional_attribute-2.new.self.rest.now _
    c.from_residual-in_err-label.result c.in_err-label.ensures c.from_residual-in_err-label.ensures.1
    (λ none. renamed_absent _ _ _ _ _ category_renames _
    (ended_absent _ _ _
    (both_stuck _ _ _ _ _
    (both_found _ _ _ _ _ _ _ (behind_found _ _ _ _ _ _ c.in_ok-literal.ensures c.in_ok-term.ensures)
    c.in_ok-scheme.ensures) none)))

pub returns-in_err-literal-2 : goal.returns-in_err-literal-2
returns-in_err-literal-2 c =
    stopped _ (λ value. value) category _ c.args.self.now.rest.now c.literal-2.new.self.rest.now _
    c.from_residual-in_err-literal-2.result c.in_err-literal-2.ensures c.from_residual-in_err-literal-2.ensures.1
    (λ none. renamed_absent _ _ _ _ _ category_renames _
    (ended_stuck _ _ _ _ _
    (both_found _ _ _ _ _ _ _
    (both_found _ _ _ _ _ _ _ (behind_found _ _ _ _ _ _ c.in_ok-literal.ensures c.in_ok-term.ensures)
    c.in_ok-scheme.ensures) c.in_ok-label.ensures) none))

pub returns : goal.returns
returns c =
    renamed_found _ _ _ _ _ category_renames _ _ _
    (ended_found _ _ _ _ _ _
    (both_found _ _ _ _ _ _ _
    (both_found _ _ _ _ _ _ _ (behind_found _ _ _ _ _ _ c.in_ok-literal.ensures c.in_ok-term.ensures)
    c.in_ok-scheme.ensures) c.in_ok-label.ensures) c.in_ok-literal-2.ensures) tt
