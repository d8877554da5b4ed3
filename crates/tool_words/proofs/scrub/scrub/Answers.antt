use Rattle.std.proofs.Common.{◌∷◌, [], Global, ap, codes, length, map, refl, string_bytes, sym, true, ◌∙◌}
use Rattle.std.proofs.lemmas.Bool.{eqb-true}
use Rattle.std.proofs.lemmas.List.{nil_from_length}
use Rattle.std.proofs.lemmas.Slice.Eq.{bytes_eq-Decides}
use Rattle.tool_words.proofs.scrub.scrub.Goals as goal

pub returns-then-is_empty-clause-found : goal.returns-then-is_empty-clause-found
returns-then-is_empty-clause-found c =
    let flag = (bytes_eq-Decides c.as_str.result.now (codes "--repair")).0 (sym c.eq.ensures ∙ c.if-eq.true) in
    let rest = nil_from_length c.in-Some.rest.now
    (eqb-true (length c.in-Some.rest.now) 0 (sym c.is_empty.ensures ∙ c.if-is_empty.true)) in (
      true,
      refl,
      ap (map (string_bytes {Z = Global})) c.in-Some.ensures.cases.0
          ∙ ap (λ more. string_bytes {Z = Global} c.in-Some.flag.now ∷ map (string_bytes {Z = Global}) more) rest
          ∙ ap (λ word. word ∷ []) (sym c.as_str.ensures.value ∙ flag),
    )
