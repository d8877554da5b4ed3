use Rattle.std.proofs.Common.{[], ◌∷◌, ◌++◌, length, map, take, ap, sym, ◌∙◌, arith}
use Rattle.std.proofs.lemmas.List.{length-map, map-append, take_all}
use Rattle.atom_values.proofs.WalkLemmas.{take-one_more, All-one_more}
use Rattle.atom_values.proofs.many.ManyCopies.copy.Goals as goal

pub invariant_of-result : goal.invariant_of-result
invariant_of-result g c =
    let copied = g.T.Copies.copied in
    let counts = ap length c.loop-item.invariant.copied in
    let whole = ap length (take_all c.loop-item.item-index c.as_slice-item-items.result.now c.loop-item-test.false) in
    let left = length-map c.loop-item.items.items copied in
    let right = length-map (take c.loop-item.item-index c.as_slice-item-items.result.now) copied in
    let from = ap length c.as_slice-item-items.ensures.value in
    omega (arith, c.self.invariant)

pub loop-item-preserved : goal.loop-item-preserved
loop-item-preserved g c =
    let copied = g.T.Copies.copied in
    let from = c.as_slice-item-items.result.now in
    let i = c.loop-item.item-index in
    let more = take-one_more from i c.item-item.result c.loop-item-test.true c.item-item.is in
    let before = c.loop-item.invariant.copied in
    let here = c.in_ok-copy.ensures.same in
    let pushed = c.in_ok-push.ensures.items in
    record {
      copied = ap (map copied) pushed ∙ map-append copied _ _ ∙ (λ j. before j ++ here j ∷ [])
          ∙ sym (map-append copied (take i from) (c.item-item.result ∷ [])) ∙ ap (map copied) (sym more);
      rules = All-one_more g.T.Copies.rules from i c.item-item.result c.loop-item-test.true c.item-item.is
          c.loop-item.invariant.rules c.in_ok-copy.ensures.rules;
    }
