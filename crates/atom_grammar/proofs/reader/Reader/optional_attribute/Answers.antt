use Rattle.std.proofs.Common.{sym, ◌∙◌}
use Rattle.atom_grammar.specs.Parts.{optional}
use Rattle.atom_grammar.specs.Items.{attribute}
use Rattle.atom_grammar.proofs.ReadingLemmas.{stopped, optional_none, optional_some, optional_absent, alone_closed}
use Rattle.atom_grammar.proofs.ShapeLemmas.{attribute_starts}
use Rattle.atom_grammar.proofs.reader.Reader.optional_attribute.Goals as goal

pub returns-then-not-at : goal.returns-then-not-at
returns-then-not-at c =
    optional_none c.args.start.now (attribute c.args.start.now) (attribute_starts c.args.start.now) _
    (sym c.at.ensures ∙ c.if-not-at.true)

pub returns-in_err-attribute : goal.returns-in_err-attribute
returns-in_err-attribute c =
    stopped _ (λ value. value) (optional c.args.start.now (attribute c.args.start.now)) _ c.args.self.now.rest.now
    c.attribute.new.self.rest.now _ c.from_residual.result c.in_err-attribute.ensures c.from_residual.ensures.1
    (λ none. optional_absent c.args.start.now (attribute c.args.start.now) (alone_closed _) _ (sym c.at.ensures
    ∙ c.if-not-at.false) none)

pub returns : goal.returns
returns c =
    optional_some c.args.start.now (attribute c.args.start.now) (alone_closed _) _ _ _ (sym c.at.ensures
    ∙ c.if-not-at.false) c.in_ok-attribute.ensures
