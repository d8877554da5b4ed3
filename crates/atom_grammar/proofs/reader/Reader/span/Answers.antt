use Rattle.atom_grammar.specs.FeedParts.{span}
use Rattle.atom_grammar.proofs.FeedPartLemmas.{span_renames}
use Rattle.atom_grammar.proofs.ReadingLemmas.{stopped, renamed_absent, renamed_found, behind_found, behind_absent, behind_stuck, ended_found, ended_absent, ended_stuck, both_found, both_absent, both_stuck}
use Rattle.atom_grammar.proofs.reader.Reader.span.Goals as goal

pub returns-in_err-literal : goal.returns-in_err-literal
returns-in_err-literal c =
    stopped _ (λ value. value) (span) _ c.args.self.now.rest.now c.literal.new.self.rest.now _ c.from_residual.result
    c.in_err-literal.ensures c.from_residual.ensures.1
    (λ none. renamed_absent _ _ _ _ _ (span_renames) _
    (ended_absent _ _ _ (both_absent _ _ _ (behind_absent _ _ _ none))))

pub returns-in_err-first : goal.returns-in_err-first
returns-in_err-first c =
    stopped _ (λ value. value) (span) _ c.args.self.now.rest.now c.number.new.self.rest.now _
    c.from_residual-in_err-first.result c.in_err-first.ensures c.from_residual-in_err-first.ensures.1
    (λ none. renamed_absent _ _ _ _ _ (span_renames) _
    (ended_absent _ _ _ (both_absent _ _ _ (behind_stuck _ _ _ _ c.in_ok-literal.ensures (none)))))

pub returns-in_err-literal-2 : goal.returns-in_err-literal-2
returns-in_err-literal-2 c =
    stopped _ (λ value. value) (span) _ c.args.self.now.rest.now c.literal-2.new.self.rest.now _
    c.from_residual-in_err-literal-2.result c.in_err-literal-2.ensures c.from_residual-in_err-literal-2.ensures.1
    (λ none. renamed_absent _ _ _ _ _ (span_renames) _
    (ended_absent _ _ _
    (both_stuck _ _ _ _ _ (behind_found _ _ _ _ _ _ c.in_ok-literal.ensures (c.in_ok-first.ensures))
    (behind_absent _ _ _ none))))

pub returns-in_err-last : goal.returns-in_err-last
returns-in_err-last c =
    stopped _ (λ value. value) (span) _ c.args.self.now.rest.now c.number-2.new.self.rest.now _
    c.from_residual-in_err-last.result c.in_err-last.ensures c.from_residual-in_err-last.ensures.1
    (λ none. renamed_absent _ _ _ _ _ (span_renames) _
    (ended_absent _ _ _
    (both_stuck _ _ _ _ _ (behind_found _ _ _ _ _ _ c.in_ok-literal.ensures (c.in_ok-first.ensures))
    (behind_stuck _ _ _ _ c.in_ok-literal-2.ensures (none)))))

pub returns-in_err-literal-3 : goal.returns-in_err-literal-3
returns-in_err-literal-3 c =
    stopped _ (λ value. value) (span) _ c.args.self.now.rest.now c.literal-3.new.self.rest.now _
    c.from_residual-in_err-literal-3.result c.in_err-literal-3.ensures c.from_residual-in_err-literal-3.ensures.1
    (λ none. renamed_absent _ _ _ _ _ (span_renames) _
    (ended_stuck _ _ _ _ _
    (both_found _ _ _ _ _ _ _ (behind_found _ _ _ _ _ _ c.in_ok-literal.ensures (c.in_ok-first.ensures))
    (behind_found _ _ _ _ _ _ c.in_ok-literal-2.ensures (c.in_ok-last.ensures))) none))

pub returns : goal.returns
returns c =
    renamed_found _ _ _ _ _ (span_renames) _ _ _
    (ended_found _ _ _ _ _ _
    (both_found _ _ _ _ _ _ _ (behind_found _ _ _ _ _ _ c.in_ok-literal.ensures (c.in_ok-first.ensures))
    (behind_found _ _ _ _ _ _ c.in_ok-literal-2.ensures (c.in_ok-last.ensures))) c.in_ok-literal-3.ensures) tt
