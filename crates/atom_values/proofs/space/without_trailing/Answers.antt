use Rattle.std.proofs.Common.{reverse, sym, ap, ◌∙◌}
use Rattle.atom_values.specs.Space.{without_leading}
use Rattle.atom_values.proofs.SpaceLemmas.{trailing-space}
use Rattle.atom_values.proofs.space.without_trailing.Goals as goal

pub loop-byte-preserved : goal.loop-byte-preserved
loop-byte-preserved c =
    sym (trailing-space c.in-Some.front.now c.in-Some.byte.now (sym c.is_space.ensures ∙ c.if-not-is_space.false))
    ∙ ap (λ t. reverse (without_leading (reverse t))) (sym c.in-Some.ensures.cases.0) ∙ c.loop-byte.invariant
