use Rattle.std.proofs.Common.{◌≡◌, [], ◌∷◌, ◌++◌, get_or, map, nat_cmp, take, ap, arith, sym, ◌∙◌}
use Rattle.std.specs.BTreeMap.{get}
use Rattle.std.proofs.lemmas.List.{map-append, take_more}
use Rattle.mirror_walk.specs.Index.{replaced_in}
use Rattle.mirror_walk.specs.declared.mark.ItemMark.TheVariants.{Live}
use Rattle.mirror_walk.proofs.base_map.replaced_by.Goals as goal

pub loop-item-preserved : goal.loop-item-preserved
loop-item-preserved c =
    let entries = c.args.entries.now in
    let items = c.args.items.now in
    let i = c.loop-item.item-index in
    let item = get_or items i (Live 0) in
    let more = take_more items i (Live 0) (omega arith) in
    let before = c.loop-item.invariant in
    let number = c.number-number.ensures in
    let place = c.copied-place.ensures ∙ c.get.ensures.value ∙ ap (get nat_cmp entries) number in
    let here : record { number = c.number-number.result; place = c.copied-place.result }
    ≡ replaced_in entries item = (λ j. record { number = number j; place = place j }) in
    c.in_ok-push.ensures.items ∙ (λ j. before j ++ here j ∷ [])
    ∙ sym (map-append (replaced_in entries) (take i items) (item ∷ []))
    ∙ ap (map (replaced_in entries)) (sym more)
