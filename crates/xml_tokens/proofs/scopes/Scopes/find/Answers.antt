use Rattle.std.proofs.Common.{reverse, ap, ◌∙◌}
use Rattle.std.specs.Option.{option_or}
use Rattle.xml_tokens.specs.Scopes.{found_in}
use Rattle.xml_tokens.proofs.ScopeLemmas.{found_of}
use Rattle.xml_tokens.proofs.scopes.Scopes.find.Goals as goal

pub returns : goal.returns
returns c = λ opened are.
    let declared = reverse c.args.self.now.declared.items in
    let prefix = c.args.prefix.now in
    c.or.ensures
    ∙ ap (λ x. option_or x c.outer_namespace.result) (c.declared_namespace.ensures are.1.0)
    ∙ ap (option_or (found_in declared prefix)) c.outer_namespace.ensures
    ∙ found_of opened declared are.2 prefix
