use Rattle.std.proofs.Common.{Some, None, sym, ◌∙◌}
use Rattle.atom_values.specs.Escape.{may_escape}
use Rattle.atom_values.proofs.EscapeLemmas.{position_is}
use Rattle.atom_values.proofs.text.plain_len.Goals as goal

pub returns-in-Some : goal.returns-in-Some
returns-in-Some c =
    position_is may_escape c.args.text.now (Some c.in-Some.at) (sym c.in-Some.is ∙ c.first_escape.ensures)

pub returns-in-None : goal.returns-in-None
returns-in-None c = position_is may_escape c.args.text.now None (sym c.in-None.is ∙ c.first_escape.ensures)
