use Rattle.atom_grammar.specs.FeedParts.{feed_link}
use Rattle.atom_grammar.proofs.FeedPartLemmas.{link_renames}
use Rattle.atom_grammar.proofs.ReadingLemmas.{stopped, renamed_absent, renamed_found, behind_found, behind_absent, behind_stuck, ended_found, ended_absent, ended_stuck}
use Rattle.atom_grammar.proofs.reader.Reader.feed_link.Goals as goal

pub returns-in_err-literal : goal.returns-in_err-literal
returns-in_err-literal c =
    stopped _ (λ value. value) (feed_link c.args.rel.now c.args.base.now) _ c.args.self.now.rest.now
    c.literal.new.self.rest.now _ c.from_residual.result c.in_err-literal.ensures c.from_residual.ensures.1
    (λ none. renamed_absent _ _ _ _ _ (link_renames c.args.rel.now c.args.base.now) _
    (ended_absent _ _ _ (behind_absent _ _ _ none)))

pub returns-in_err-literal-2 : goal.returns-in_err-literal-2
returns-in_err-literal-2 c =
    stopped _ (λ value. value) (feed_link c.args.rel.now c.args.base.now) _ c.args.self.now.rest.now
    c.literal-2.new.self.rest.now _ c.from_residual-in_err-literal-2.result c.in_err-literal-2.ensures
    c.from_residual-in_err-literal-2.ensures.1
    (λ none. renamed_absent _ _ _ _ _ (link_renames c.args.rel.now c.args.base.now) _
    (ended_absent _ _ _ (behind_stuck _ _ _ _ c.in_ok-literal.ensures (behind_absent _ _ _ none))))

pub returns-in_err-literal-3 : goal.returns-in_err-literal-3
returns-in_err-literal-3 c =
    stopped _ (λ value. value) (feed_link c.args.rel.now c.args.base.now) _ c.args.self.now.rest.now
    c.literal-3.new.self.rest.now _ c.from_residual-in_err-literal-3.result c.in_err-literal-3.ensures
    c.from_residual-in_err-literal-3.ensures.1
    (λ none. renamed_absent _ _ _ _ _ (link_renames c.args.rel.now c.args.base.now) _
    (ended_absent _ _ _
    (behind_stuck _ _ _ _ c.in_ok-literal.ensures
    (behind_stuck _ _ _ _ c.in_ok-literal-2.ensures (behind_absent _ _ _ none)))))

pub returns-in_err-address : goal.returns-in_err-address
returns-in_err-address c =
    stopped _ (λ value. value) (feed_link c.args.rel.now c.args.base.now) _ c.args.self.now.rest.now
    c.address.new.self.rest.now _ c.from_residual-in_err-address.result c.in_err-address.ensures
    c.from_residual-in_err-address.ensures.1
    (λ none. renamed_absent _ _ _ _ _ (link_renames c.args.rel.now c.args.base.now) _
    (ended_absent _ _ _
    (behind_stuck _ _ _ _ c.in_ok-literal.ensures
    (behind_stuck _ _ _ _ c.in_ok-literal-2.ensures (behind_stuck _ _ _ _ c.in_ok-literal-3.ensures (none))))))

pub returns-in_err-literal-4 : goal.returns-in_err-literal-4
returns-in_err-literal-4 c =
    stopped _ (λ value. value) (feed_link c.args.rel.now c.args.base.now) _ c.args.self.now.rest.now
    c.literal-4.new.self.rest.now _ c.from_residual-in_err-literal-4.result c.in_err-literal-4.ensures
    c.from_residual-in_err-literal-4.ensures.1
    (λ none. renamed_absent _ _ _ _ _ (link_renames c.args.rel.now c.args.base.now) _
    (ended_stuck _ _ _ _ _
    (behind_found _ _ _ _ _ _ c.in_ok-literal.ensures
    (behind_found _ _ _ _ _ _ c.in_ok-literal-2.ensures
    (behind_found _ _ _ _ _ _ c.in_ok-literal-3.ensures (c.in_ok-address.ensures)))) none))

pub returns : goal.returns
returns c =
    renamed_found _ _ _ _ _ (link_renames c.args.rel.now c.args.base.now) _ _ _
    (ended_found _ _ _ _ _ _
    (behind_found _ _ _ _ _ _ c.in_ok-literal.ensures
    (behind_found _ _ _ _ _ _ c.in_ok-literal-2.ensures
    (behind_found _ _ _ _ _ _ c.in_ok-literal-3.ensures (c.in_ok-address.ensures)))) c.in_ok-literal-4.ensures) tt
