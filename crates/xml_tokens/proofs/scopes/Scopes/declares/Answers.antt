use Rattle.std.proofs.Common.{ap, sym, ◌∙◌, reverse, length}
use Rattle.std.proofs.lemmas.List.{nil_from_length}
use Rattle.xml_tokens.specs.Scopes.{is_first}
use Rattle.xml_tokens.proofs.ScopeLemmas.{first_of_last}
use Rattle.xml_tokens.proofs.scopes.Scopes.declares.Goals as goal

pub returns-in-Some : goal.returns-in-Some
returns-in-Some c =
    let s = c.args.self.now in
    first_of_last s.declared.items c.in-Some.last.now c.in-Some.field-0-1.now s.depth
    (sym c.as_slice.ensures.value ∙ c.in-Some.ensures.cases.0)

pub returns-in-None : goal.returns-in-None
returns-in-None c =
    let s = c.args.self.now in
    sym (ap (λ xs. is_first s.depth (reverse xs)) (nil_from_length s.declared.items
    (ap length (sym c.as_slice.ensures.value) ∙ c.in-None.ensures.cases)))
