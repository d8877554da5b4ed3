use Rattle.std.proofs.Common.{ℕ, ◌∷◌, ◌++◌, [], List, take, flat_map, ap, sym, ◌∙◌}
use Rattle.std.proofs.lemmas.List.{take_more, flat_map_more}
use Rattle.deleted_entries.specs.declared.item.Item.{Item}
use Rattle.command_ends.specs.Summary.{item_line}
use Rattle.command_ends.proofs.summary_lines.push_items.Goals as goal

pub loop-item-preserved : goal.loop-item-preserved
loop-item-preserved c =
    let items = c.args.items.now in
    let i = c.loop-item.item-index in
    let before = c.args.out.now.items in
    let item = c.item-item.result in
    let more = take_more items i item c.loop-item-test.true in
    c.in_ok-push_item.ensures
    ∙ ap (λ (x : List ℕ). x ++ item_line item) c.loop-item.invariant
    ∙ flat_map_more item_line before (take i items) item
    ∙ ap (λ (xs : List Item). before ++ flat_map item_line xs)
    (sym (more ∙ ap (λ (x : Item). take i items ++ x ∷ []) (sym c.item-item.is)))
