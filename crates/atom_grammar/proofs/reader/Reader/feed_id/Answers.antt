use Rattle.atom_grammar.specs.FeedParts.{feed_id}
use Rattle.atom_grammar.proofs.FeedPartLemmas.{id_renames}
use Rattle.atom_grammar.proofs.ReadingLemmas.{stopped, renamed_absent, renamed_found, behind_found, behind_absent, behind_stuck, ended_found, ended_absent, ended_stuck}
use Rattle.atom_grammar.proofs.reader.Reader.feed_id.Goals as goal

pub returns-in_err-literal : goal.returns-in_err-literal
returns-in_err-literal c =
    stopped _ (λ value. value) (feed_id) _ c.args.self.now.rest.now c.literal.new.self.rest.now _
    c.from_residual.result c.in_err-literal.ensures c.from_residual.ensures.1
    (λ none. renamed_absent _ _ _ _ _ (id_renames) _ (ended_absent _ _ _ (behind_absent _ _ _ none)))

pub returns-in_err-id : goal.returns-in_err-id
returns-in_err-id c =
    stopped _ (λ value. value) (feed_id) _ c.args.self.now.rest.now c.uuid.new.self.rest.now _
    c.from_residual-in_err-id.result c.in_err-id.ensures c.from_residual-in_err-id.ensures.1
    (λ none. renamed_absent _ _ _ _ _ (id_renames) _
    (ended_absent _ _ _ (behind_stuck _ _ _ _ c.in_ok-literal.ensures (none))))

pub returns-in_err-literal-2 : goal.returns-in_err-literal-2
returns-in_err-literal-2 c =
    stopped _ (λ value. value) (feed_id) _ c.args.self.now.rest.now c.literal-2.new.self.rest.now _
    c.from_residual-in_err-literal-2.result c.in_err-literal-2.ensures c.from_residual-in_err-literal-2.ensures.1
    (λ none. renamed_absent _ _ _ _ _ (id_renames) _
    (ended_stuck _ _ _ _ _ (behind_found _ _ _ _ _ _ c.in_ok-literal.ensures (c.in_ok-id.ensures)) none))

pub returns : goal.returns
returns c =
    renamed_found _ _ _ _ _ (id_renames) _ _ _
    (ended_found _ _ _ _ _ _ (behind_found _ _ _ _ _ _ c.in_ok-literal.ensures (c.in_ok-id.ensures))
    c.in_ok-literal-2.ensures) tt
