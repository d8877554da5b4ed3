use Rattle.atom_grammar.specs.Items.{construct}
use Rattle.atom_grammar.proofs.ShapeLemmas.{construct_renames, end_tag}
use Rattle.atom_grammar.proofs.ReadingLemmas.{stopped, renamed_absent, renamed_found, behind_found, behind_absent, behind_stuck, ended_found, ended_absent, ended_stuck, both_found, both_absent, both_stuck}
use Rattle.atom_grammar.proofs.reader.Reader.construct.Goals as goal

pub returns-in_err-literal : goal.returns-in_err-literal
returns-in_err-literal c =
    stopped _ (λ value. value) (construct c.args.start.now c.args.end.now) _ c.args.self.now.rest.now
    c.literal.new.self.rest.now _ c.from_residual.result c.in_err-literal.ensures c.from_residual.ensures.1
    (λ none. renamed_absent _ _ _ _ _
    (construct_renames c.args.start.now c.args.end.now (end_tag c.args.end.now c.requires)) _
    (ended_absent _ _ _ (both_absent _ _ _ (ended_absent _ _ _ (behind_absent _ _ _ none)))))

pub returns-in_err-kind : goal.returns-in_err-kind
returns-in_err-kind c =
    stopped _ (λ value. value) (construct c.args.start.now c.args.end.now) _ c.args.self.now.rest.now
    c.kind.new.self.rest.now _ c.from_residual-in_err-kind.result c.in_err-kind.ensures
    c.from_residual-in_err-kind.ensures.1
    (λ none. renamed_absent _ _ _ _ _
    (construct_renames c.args.start.now c.args.end.now (end_tag c.args.end.now c.requires)) _
    (ended_absent _ _ _
    (both_absent _ _ _ (ended_absent _ _ _ (behind_stuck _ _ _ _ c.in_ok-literal.ensures none)))))

pub returns-in_err-literal-2 : goal.returns-in_err-literal-2
returns-in_err-literal-2 c =
    stopped _ (λ value. value) (construct c.args.start.now c.args.end.now) _ c.args.self.now.rest.now
    c.literal-2.new.self.rest.now _ c.from_residual-in_err-literal-2.result c.in_err-literal-2.ensures
    c.from_residual-in_err-literal-2.ensures.1
    (λ none. renamed_absent _ _ _ _ _
    (construct_renames c.args.start.now c.args.end.now (end_tag c.args.end.now c.requires)) _
    (ended_absent _ _ _
    (both_absent _ _ _
    (ended_stuck _ _ _ _ _ (behind_found _ _ _ _ _ _ c.in_ok-literal.ensures c.in_ok-kind.ensures) none))))

pub returns-in_err-value : goal.returns-in_err-value
returns-in_err-value c =
    stopped _ (λ value. value) (construct c.args.start.now c.args.end.now) _ c.args.self.now.rest.now
    c.content.new.self.rest.now _ c.from_residual-in_err-value.result c.in_err-value.ensures
    c.from_residual-in_err-value.ensures.1
    (λ none. renamed_absent _ _ _ _ _
    (construct_renames c.args.start.now c.args.end.now (end_tag c.args.end.now c.requires)) _
    (ended_absent _ _ _
    (both_stuck _ _ _ _ _
    (ended_found _ _ _ _ _ _ (behind_found _ _ _ _ _ _ c.in_ok-literal.ensures c.in_ok-kind.ensures)
    c.in_ok-literal-2.ensures) none)))

pub returns-in_err-literal-3 : goal.returns-in_err-literal-3
returns-in_err-literal-3 c =
    stopped _ (λ value. value) (construct c.args.start.now c.args.end.now) _ c.args.self.now.rest.now
    c.literal-3.new.self.rest.now _ c.from_residual-in_err-literal-3.result c.in_err-literal-3.ensures
    c.from_residual-in_err-literal-3.ensures.1
    (λ none. renamed_absent _ _ _ _ _
    (construct_renames c.args.start.now c.args.end.now (end_tag c.args.end.now c.requires)) _
    (ended_stuck _ _ _ _ _
    (both_found _ _ _ _ _ _ _
    (ended_found _ _ _ _ _ _ (behind_found _ _ _ _ _ _ c.in_ok-literal.ensures c.in_ok-kind.ensures)
    c.in_ok-literal-2.ensures) c.in_ok-value.ensures) none))

pub returns : goal.returns
returns c =
    renamed_found _ _ _ _ _ (construct_renames c.args.start.now c.args.end.now (end_tag c.args.end.now c.requires)) _
    _ _
    (ended_found _ _ _ _ _ _
    (both_found _ _ _ _ _ _ _
    (ended_found _ _ _ _ _ _ (behind_found _ _ _ _ _ _ c.in_ok-literal.ensures c.in_ok-kind.ensures)
    c.in_ok-literal-2.ensures) c.in_ok-value.ensures) c.in_ok-literal-3.ensures) tt
