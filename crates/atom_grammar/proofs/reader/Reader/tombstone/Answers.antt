use Rattle.atom_grammar.specs.Items.{tombstone}
use Rattle.atom_grammar.proofs.EntryLemmas.{tombstone_renames}
use Rattle.atom_grammar.proofs.NameLemmas.{member_counted}
use Rattle.atom_grammar.proofs.ReadingLemmas.{stopped, renamed_absent, renamed_found, behind_found, behind_absent, behind_stuck, ended_found, ended_absent, ended_stuck, both_found, both_absent, both_stuck}
use Rattle.atom_grammar.proofs.reader.Reader.tombstone.Goals as goal

pub returns-in_err-literal : goal.returns-in_err-literal
returns-in_err-literal c =
    stopped _ (λ value. value) (tombstone c.args.name.now) _ c.args.self.now.rest.now c.literal.new.self.rest.now _
    c.from_residual.result c.in_err-literal.ensures c.from_residual.ensures.1
    (λ none. renamed_absent _ _ _ _ _ (tombstone_renames c.args.name.now) _
    (ended_absent _ _ _ (both_absent _ _ _ (ended_absent _ _ _ (behind_absent _ _ _ none)))))

pub returns-in_err-number : goal.returns-in_err-number
returns-in_err-number c =
    stopped _ (λ value. value) (tombstone c.args.name.now) _ c.args.self.now.rest.now c.member.new.self.rest.now _
    c.from_residual-in_err-number.result c.in_err-number.ensures c.from_residual-in_err-number.ensures.1
    (λ none. renamed_absent _ _ _ _ _ (tombstone_renames c.args.name.now) _
    (ended_absent _ _ _
    (both_absent _ _ _ (ended_absent _ _ _ (behind_stuck _ _ _ _ c.in_ok-literal.ensures none)))))

pub returns-in_err-literal-2 : goal.returns-in_err-literal-2
returns-in_err-literal-2 c =
    stopped _ (λ value. value) (tombstone c.args.name.now) _ c.args.self.now.rest.now c.literal-2.new.self.rest.now _
    c.from_residual-in_err-literal-2.result c.in_err-literal-2.ensures c.from_residual-in_err-literal-2.ensures.1
    (λ none. renamed_absent _ _ _ _ _ (tombstone_renames c.args.name.now) _
    (ended_absent _ _ _
    (both_absent _ _ _
    (ended_stuck _ _ _ _ _ (behind_found _ _ _ _ _ _ c.in_ok-literal.ensures c.in_ok-number.ensures) none))))

pub returns-in_err-when : goal.returns-in_err-when
returns-in_err-when c =
    stopped _ (λ value. value) (tombstone c.args.name.now) _ c.args.self.now.rest.now c.moment.new.self.rest.now _
    c.from_residual-in_err-when.result c.in_err-when.ensures c.from_residual-in_err-when.ensures.1
    (λ none. renamed_absent _ _ _ _ _ (tombstone_renames c.args.name.now) _
    (ended_absent _ _ _
    (both_stuck _ _ _ _ _
    (ended_found _ _ _ _ _ _ (behind_found _ _ _ _ _ _ c.in_ok-literal.ensures c.in_ok-number.ensures)
    c.in_ok-literal-2.ensures) none)))

pub returns-in_err-literal-3 : goal.returns-in_err-literal-3
returns-in_err-literal-3 c =
    stopped _ (λ value. value) (tombstone c.args.name.now) _ c.args.self.now.rest.now c.literal-3.new.self.rest.now _
    c.from_residual-in_err-literal-3.result c.in_err-literal-3.ensures c.from_residual-in_err-literal-3.ensures.1
    (λ none. renamed_absent _ _ _ _ _ (tombstone_renames c.args.name.now) _
    (ended_stuck _ _ _ _ _
    (both_found _ _ _ _ _ _ _
    (ended_found _ _ _ _ _ _ (behind_found _ _ _ _ _ _ c.in_ok-literal.ensures c.in_ok-number.ensures)
    c.in_ok-literal-2.ensures) c.in_ok-when.ensures) none))

pub returns : goal.returns
returns c =
    renamed_found _ _ _ _ _ (tombstone_renames c.args.name.now) _ _ _
    (ended_found _ _ _ _ _ _
    (both_found _ _ _ _ _ _ _
    (ended_found _ _ _ _ _ _ (behind_found _ _ _ _ _ _ c.in_ok-literal.ensures c.in_ok-number.ensures)
    c.in_ok-literal-2.ensures) c.in_ok-when.ensures) c.in_ok-literal-3.ensures) tt

pub invariant_of-result : goal.invariant_of-result
invariant_of-result c = member_counted c.args.name.now.id _ _ c.in_ok-number.number c.in_ok-number.ensures
