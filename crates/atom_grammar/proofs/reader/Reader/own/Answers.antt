use Rattle.atom_grammar.specs.FeedParts.{own}
use Rattle.atom_grammar.proofs.FeedPartLemmas.{own_renames}
use Rattle.atom_grammar.proofs.ReadingLemmas.{stopped, renamed_absent, renamed_found, behind_found, behind_absent, behind_stuck, ended_found, ended_absent, ended_stuck}
use Rattle.atom_grammar.proofs.reader.Reader.own.Goals as goal

pub returns-in_err-literal : goal.returns-in_err-literal
returns-in_err-literal c =
    stopped _ (λ value. value) (own) _ c.args.self.now.rest.now c.literal.new.self.rest.now _ c.from_residual.result
    c.in_err-literal.ensures c.from_residual.ensures.1
    (λ none. renamed_absent _ _ _ _ _ (own_renames) _ (ended_absent _ _ _ (behind_absent _ _ _ none)))

pub returns-in_err-own : goal.returns-in_err-own
returns-in_err-own c =
    stopped _ (λ value. value) (own) _ c.args.self.now.rest.now c.own_address.new.self.rest.now _
    c.from_residual-in_err-own.result c.in_err-own.ensures c.from_residual-in_err-own.ensures.1
    (λ none. renamed_absent _ _ _ _ _ (own_renames) _
    (ended_absent _ _ _ (behind_stuck _ _ _ _ c.in_ok-literal.ensures (none))))

pub returns-in_err-literal-2 : goal.returns-in_err-literal-2
returns-in_err-literal-2 c =
    stopped _ (λ value. value) (own) _ c.args.self.now.rest.now c.literal-2.new.self.rest.now _
    c.from_residual-in_err-literal-2.result c.in_err-literal-2.ensures c.from_residual-in_err-literal-2.ensures.1
    (λ none. renamed_absent _ _ _ _ _ (own_renames) _
    (ended_stuck _ _ _ _ _ (behind_found _ _ _ _ _ _ c.in_ok-literal.ensures (c.in_ok-own.ensures)) none))

pub returns : goal.returns
returns c =
    renamed_found _ _ _ _ _ (own_renames) _ _ _
    (ended_found _ _ _ _ _ _ (behind_found _ _ _ _ _ _ c.in_ok-literal.ensures (c.in_ok-own.ensures))
    c.in_ok-literal-2.ensures) tt
