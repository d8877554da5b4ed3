use Rattle.std.proofs.Common.{sym, ◌∙◌}
use Rattle.xml_tokens.proofs.DeclarationLemmas.{yes_reads, no_reads}
use Rattle.xml_tokens.proofs.cursor.Cursor.yes_or_no.Goals as goal

pub returns-then-at : goal.returns-then-at
returns-then-at c =
    yes_reads c.args.self.now.rest.now (sym c.at.ensures ∙ c.if-at.true) c.literal.result c.literal.new.self.rest.now
    c.literal.ensures

pub returns : goal.returns
returns c =
    no_reads c.args.self.now.rest.now (sym c.at.ensures
    ∙ c.if-at.false) c.literal-2.result c.literal-2.new.self.rest.now
    c.literal-2.ensures
