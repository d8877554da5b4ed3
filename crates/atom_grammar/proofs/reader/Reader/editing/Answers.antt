use Rattle.atom_grammar.specs.Items.{editing}
use Rattle.atom_grammar.proofs.EntryLemmas.{editing_renames, editing_found, not_member}
use Rattle.atom_grammar.proofs.ReadingLemmas.{stopped, renamed_absent, renamed_refused, behind_found, behind_absent, behind_stuck, ended_found, ended_absent, ended_stuck}
use Rattle.atom_grammar.proofs.reader.Reader.editing.Goals as goal

pub returns-in_err-literal : goal.returns-in_err-literal
returns-in_err-literal c =
    stopped _ (λ value. value) (editing c.args.name.now) _ c.args.self.now.rest.now c.literal.new.self.rest.now _
    c.from_residual.result c.in_err-literal.ensures c.from_residual.ensures.1
    (λ none. renamed_absent _ _ _ _ _ (editing_renames c.args.name.now) _
    (ended_absent _ _ _ (behind_absent _ _ _ none)))

pub returns-in_err-address : goal.returns-in_err-address
returns-in_err-address c =
    stopped _ (λ value. value) (editing c.args.name.now) _ c.args.self.now.rest.now c.address.new.self.rest.now _
    c.from_residual-in_err-address.result c.in_err-address.ensures c.from_residual-in_err-address.ensures.1
    (λ none. renamed_absent _ _ _ _ _ (editing_renames c.args.name.now) _
    (ended_absent _ _ _ (behind_stuck _ _ _ _ c.in_ok-literal.ensures none)))

pub returns-in_err-literal-2 : goal.returns-in_err-literal-2
returns-in_err-literal-2 c =
    stopped _ (λ value. value) (editing c.args.name.now) _ c.args.self.now.rest.now c.literal-2.new.self.rest.now _
    c.from_residual-in_err-literal-2.result c.in_err-literal-2.ensures c.from_residual-in_err-literal-2.ensures.1
    (λ none. renamed_absent _ _ _ _ _ (editing_renames c.args.name.now) _
    (ended_stuck _ _ _ _ _ (behind_found _ _ _ _ _ _ c.in_ok-literal.ensures c.in_ok-address.ensures) none))

pub returns-in-Member : goal.returns-in-Member
returns-in-Member c =
    editing_found c.args.name.now _ _ _ _
    (ended_found _ _ _ _ _ _ (behind_found _ _ _ _ _ _ c.in_ok-literal.ensures c.in_ok-address.ensures)
    c.in_ok-literal-2.ensures) c.in-Member.is

pub returns-in_default : goal.returns-in_default
returns-in_default c =
    renamed_refused _ _ _ _ _ (editing_renames c.args.name.now) _ _ _
    (ended_found _ _ _ _ _ _ (behind_found _ _ _ _ _ _ c.in_ok-literal.ensures c.in_ok-address.ensures)
    c.in_ok-literal-2.ensures) (not_member _ c.in_default.not-Member)
