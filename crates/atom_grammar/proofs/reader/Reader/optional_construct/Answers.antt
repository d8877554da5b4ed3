use Rattle.std.proofs.Common.{sym, ◌∙◌}
use Rattle.atom_grammar.specs.Parts.{optional}
use Rattle.atom_grammar.specs.Items.{construct}
use Rattle.atom_grammar.proofs.ReadingLemmas.{stopped, optional_none, optional_some, optional_absent}
use Rattle.atom_grammar.proofs.ShapeLemmas.{construct_starts, construct_closed}
use Rattle.atom_grammar.proofs.reader.Reader.optional_construct.Goals as goal

pub returns-then-not-at : goal.returns-then-not-at
returns-then-not-at c =
    optional_none c.args.start.now (construct c.args.start.now c.args.end.now)
    (construct_starts c.args.start.now c.args.end.now) _ (sym c.at.ensures ∙ c.if-not-at.true)

pub returns-in_err-construct : goal.returns-in_err-construct
returns-in_err-construct c =
    stopped _ (λ value. value) (optional c.args.start.now (construct c.args.start.now c.args.end.now)) _
    c.args.self.now.rest.now c.construct.new.self.rest.now _ c.from_residual.result c.in_err-construct.ensures
    c.from_residual.ensures.1
    (λ none. optional_absent c.args.start.now (construct c.args.start.now c.args.end.now)
    (construct_closed c.args.start.now c.args.end.now) _ (sym c.at.ensures ∙ c.if-not-at.false) none)

pub returns : goal.returns
returns c =
    optional_some c.args.start.now (construct c.args.start.now c.args.end.now)
    (construct_closed c.args.start.now c.args.end.now) _ _ _ (sym c.at.ensures
    ∙ c.if-not-at.false) c.in_ok-construct.ensures
