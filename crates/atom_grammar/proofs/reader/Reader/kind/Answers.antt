use Rattle.std.proofs.Common.{sym, ◌∙◌}
use Rattle.atom_grammar.specs.Items.{kind}
use Rattle.atom_grammar.proofs.ReadingLemmas.{stopped}
use Rattle.atom_grammar.proofs.ShapeLemmas.{kind_plain, kind_html, kind_absent}
use Rattle.atom_grammar.proofs.reader.Reader.kind.Goals as goal

pub returns-then-not-at : goal.returns-then-not-at
returns-then-not-at c = kind_plain c.args.self.now.rest.now (sym c.at.ensures ∙ c.if-not-at.true)

pub returns-in_err-literal : goal.returns-in_err-literal
returns-in_err-literal c =
    stopped _ (λ value. value) kind _ c.args.self.now.rest.now c.literal.new.self.rest.now _ c.from_residual.result
    c.in_err-literal.ensures c.from_residual.ensures.1
    (λ none. kind_absent _ (sym c.at.ensures ∙ c.if-not-at.false) none)

pub returns : goal.returns
returns c = kind_html _ _ c.in_ok-literal.ensures
