use Rattle.std.proofs.Common.{sym, ◌∙◌}
use Rattle.atom_grammar.specs.Parts.{optional}
use Rattle.atom_grammar.specs.Items.{element}
use Rattle.atom_grammar.proofs.ReadingLemmas.{stopped, optional_none, optional_some, optional_absent, alone_closed}
use Rattle.atom_grammar.proofs.ShapeLemmas.{element_starts}
use Rattle.atom_grammar.proofs.reader.Reader.optional_element.Goals as goal

pub returns-then-not-at : goal.returns-then-not-at
returns-then-not-at c =
    optional_none c.args.start.now (element c.args.start.now c.args.end.now)
    (element_starts c.args.start.now c.args.end.now) _ (sym c.at.ensures ∙ c.if-not-at.true)

pub returns-in_err-element : goal.returns-in_err-element
returns-in_err-element c =
    stopped _ (λ value. value) (optional c.args.start.now (element c.args.start.now c.args.end.now)) _
    c.args.self.now.rest.now c.element.new.self.rest.now _ c.from_residual.result c.in_err-element.ensures
    c.from_residual.ensures.1
    (λ none. optional_absent c.args.start.now (element c.args.start.now c.args.end.now) (alone_closed _) _
    (sym c.at.ensures ∙ c.if-not-at.false) none)

pub returns : goal.returns
returns c =
    optional_some c.args.start.now (element c.args.start.now c.args.end.now) (alone_closed _) _ _ _ (sym c.at.ensures
    ∙ c.if-not-at.false) c.in_ok-element.ensures
