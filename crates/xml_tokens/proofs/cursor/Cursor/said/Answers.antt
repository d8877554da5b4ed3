use Rattle.std.proofs.Common.{inl, sym, ◌∙◌}
use Rattle.xml_tokens.proofs.cursor.Cursor.said.Goals as goal

pub returns : goal.returns
returns c = inl (c.plain.ensures, sym c.at.ensures ∙ c.if-at.false, sym c.at-3.ensures ∙ c.if-at-3.false)
