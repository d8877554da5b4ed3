use Rattle.std.proofs.Common.{◌+◌, ◌∙◌}
use Rattle.xml_tokens.proofs.BeginLemmas.{to_end}
use Rattle.xml_tokens.proofs.NameLemmas.{split_at_colon, split_nowhere}
use Rattle.xml_tokens.proofs.scopes.split_name.Goals as goal

pub returns-in-Some : goal.returns-in-Some
returns-in-Some c = λ q lawful e.
    let p = split_at_colon c.args.name.now c.in-Some.colon c.in-Some.ensures q lawful e in
    (p.0, to_end c.args.name.now (c.in-Some.colon + 1) ∙ p.1)

pub returns-in-None : goal.returns-in-None
returns-in-None c = split_nowhere c.args.name.now c.in-None.ensures
