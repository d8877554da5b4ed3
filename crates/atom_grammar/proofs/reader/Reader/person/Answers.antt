use Rattle.atom_grammar.specs.Items.{person}
use Rattle.atom_grammar.proofs.ShapeLemmas.{person_renames, end_tag}
use Rattle.atom_grammar.proofs.ReadingLemmas.{stopped, renamed_absent, renamed_found, behind_found, behind_absent, behind_stuck, ended_found, ended_absent, ended_stuck, both_found, both_absent, both_stuck}
use Rattle.atom_grammar.proofs.reader.Reader.person.Goals as goal

pub returns-in_err-literal : goal.returns-in_err-literal
returns-in_err-literal c =
    stopped _ (λ value. value) (person c.args.start.now c.args.end.now) _ c.args.self.now.rest.now
    c.literal.new.self.rest.now _ c.from_residual.result c.in_err-literal.ensures c.from_residual.ensures.1
    (λ none. renamed_absent _ _ _ _ _
    (person_renames c.args.start.now c.args.end.now (end_tag c.args.end.now c.requires)) _
    (ended_absent _ _ _ (both_absent _ _ _ (both_absent _ _ _ (behind_absent _ _ _ none)))))

pub returns-in_err-name : goal.returns-in_err-name
returns-in_err-name c =
    stopped _ (λ value. value) (person c.args.start.now c.args.end.now) _ c.args.self.now.rest.now
    c.element.new.self.rest.now _ c.from_residual-in_err-name.result c.in_err-name.ensures
    c.from_residual-in_err-name.ensures.1
    (λ none. renamed_absent _ _ _ _ _
    (person_renames c.args.start.now c.args.end.now (end_tag c.args.end.now c.requires)) _
    (ended_absent _ _ _
    (both_absent _ _ _ (both_absent _ _ _ (behind_stuck _ _ _ _ c.in_ok-literal.ensures none)))))

pub returns-in_err-uri : goal.returns-in_err-uri
returns-in_err-uri c =
    stopped _ (λ value. value) (person c.args.start.now c.args.end.now) _ c.args.self.now.rest.now
    c.optional_element.new.self.rest.now _ c.from_residual-in_err-uri.result c.in_err-uri.ensures
    c.from_residual-in_err-uri.ensures.1
    (λ none. renamed_absent _ _ _ _ _
    (person_renames c.args.start.now c.args.end.now (end_tag c.args.end.now c.requires)) _
    (ended_absent _ _ _
    (both_absent _ _ _
    (both_stuck _ _ _ _ _ (behind_found _ _ _ _ _ _ c.in_ok-literal.ensures c.in_ok-name.ensures) none))))

pub returns-in_err-email : goal.returns-in_err-email
returns-in_err-email c =
    stopped _ (λ value. value) (person c.args.start.now c.args.end.now) _ c.args.self.now.rest.now
    c.optional_element-2.new.self.rest.now _ c.from_residual-in_err-email.result c.in_err-email.ensures
    c.from_residual-in_err-email.ensures.1
    (λ none. renamed_absent _ _ _ _ _
    (person_renames c.args.start.now c.args.end.now (end_tag c.args.end.now c.requires)) _
    (ended_absent _ _ _
    (both_stuck _ _ _ _ _
    (both_found _ _ _ _ _ _ _ (behind_found _ _ _ _ _ _ c.in_ok-literal.ensures c.in_ok-name.ensures)
    c.in_ok-uri.ensures) none)))

pub returns-in_err-literal-2 : goal.returns-in_err-literal-2
returns-in_err-literal-2 c =
    stopped _ (λ value. value) (person c.args.start.now c.args.end.now) _ c.args.self.now.rest.now
    c.literal-2.new.self.rest.now _ c.from_residual-in_err-literal-2.result c.in_err-literal-2.ensures
    c.from_residual-in_err-literal-2.ensures.1
    (λ none. renamed_absent _ _ _ _ _
    (person_renames c.args.start.now c.args.end.now (end_tag c.args.end.now c.requires)) _
    (ended_stuck _ _ _ _ _
    (both_found _ _ _ _ _ _ _
    (both_found _ _ _ _ _ _ _ (behind_found _ _ _ _ _ _ c.in_ok-literal.ensures c.in_ok-name.ensures)
    c.in_ok-uri.ensures) c.in_ok-email.ensures) none))

pub returns : goal.returns
returns c =
    renamed_found _ _ _ _ _ (person_renames c.args.start.now c.args.end.now (end_tag c.args.end.now c.requires)) _ _ _
    (ended_found _ _ _ _ _ _
    (both_found _ _ _ _ _ _ _
    (both_found _ _ _ _ _ _ _ (behind_found _ _ _ _ _ _ c.in_ok-literal.ensures c.in_ok-name.ensures)
    c.in_ok-uri.ensures) c.in_ok-email.ensures) c.in_ok-literal-2.ensures) tt
