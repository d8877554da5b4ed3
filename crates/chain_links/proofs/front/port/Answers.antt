-- The port that the digits after `:` write.
use Rattle.std.proofs.Common.{◌≤◌, ◌∷◌, Some, ap, ◌∙◌, arith, refl}
use Rattle.chain_links.proofs.front.port.Goals as goal

pub returns-clause-found : goal.returns-clause-found
returns-clause-found c =
    let has = c.in_ok-value.ensures.found in
    let fits : c.in_ok-value.value ≤ 65_535 = omega arith in
    (Some c.in_ok-value.value, (has.0, fits), refl, c.in-Some.ensures.found ∙ ap (λ x. 58 ∷ x) has.1)
