use Rattle.std.proofs.Common.{◌==◌, length, sym, ap, ◌∙◌}
use Rattle.std.proofs.lemmas.Bool.{both_ways}
use Rattle.xml_tokens.proofs.ProgressLemmas.{over_parts}
use Rattle.xml_tokens.proofs.elements.Elements.is_over.Goals as goal
use Rattle.xml_tokens.proofs.elements.Elements.is_over.Goals.{then-eq, else-eq, then-is_empty, else-is_empty}

pub returns-else-is_empty-2-clause-more : goal.returns-else-is_empty-2-clause-more
returns-else-is_empty-2-clause-more c = λ _ from at text stage.
    let p = over_parts c.args.self.now from c.requires at text stage in
    elim c.if-is_empty.branch [
      | then-is_empty w ↦
          both_ways w.is_empty-then-is_empty.result (sym w.value-is ∙ c.if-is_empty-2.false)
          (w.is_empty-then-is_empty.ensures ∙ ap (λ xs. length xs == 0) p.2)
      | else-is_empty w ↦ elim c.if-eq.branch [
        | then-eq v ↦
            both_ways v.is_empty.result (sym v.value-is ∙ w.if-is_empty.false)
            (v.is_empty.ensures ∙ ap (λ n. n == 0) c.args.self.now.names.ok.0 ∙ ap (λ xs. length xs == 0) p.1)
        | else-eq v ↦ both_ways c.eq.result v.if-eq.false (c.eq.ensures ∙ rw p.0)
      ]
    ]
