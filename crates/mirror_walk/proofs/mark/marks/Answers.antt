use Rattle.std.proofs.Common.{[], ◌∷◌, ◌++◌, map, take, ap, subst, sym, ◌∙◌, ◌≤◌}
use Rattle.std.proofs.lemmas.List.{map-append}
use Rattle.std.proofs.lemmas.List.Elements.{All-push}
use Rattle.atom_values.proofs.WalkLemmas.{take-one_more}
use Rattle.mirror_walk.specs.Marks.{AreFromOne, mark_of, marked_number}
use Rattle.mirror_walk.proofs.mark.marks.Goals as goal

pub loop-item-preserved : goal.loop-item-preserved
loop-item-preserved c =
    let i = c.loop-item.item-index in
    let more = take-one_more c.args.items.now i c.item-item.result c.loop-item-test.true c.item-item.is in
    let before = c.loop-item.invariant.marks in
    let here = c.of.ensures.mark in
    record {
      marks = c.in_ok-push.ensures.items ∙ (λ j. before j ++ here j ∷ [])
          ∙ sym (map-append mark_of (take i c.args.items.now) (c.item-item.result ∷ []))
          ∙ ap (map mark_of) (sym more);
      from_one = subst AreFromOne (sym c.in_ok-push.ensures.items)
          (All-push (λ mark. 1 ≤ marked_number mark) c.loop-item.marks.items c.of.result
          c.loop-item.invariant.from_one
          c.of.ensures.from_one);
    }
