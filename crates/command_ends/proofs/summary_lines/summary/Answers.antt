use Rattle.std.proofs.Common.{◌≡◌, ℕ, List, ◌++◌, flat_map, ap, ◌∙◌}
use Rattle.atom_writer.specs.Doc.{DocValue}
use Rattle.deleted_entries.specs.declared.item.Item.{Item}
use Rattle.command_ends.specs.Summary.{head_lines, item_line, summary}
use Rattle.command_ends.proofs.summary_lines.summary.Goals as goal

pub returns : goal.returns
unfolding summary
returns c =
    let d = c.args.doc.now in
    let head : c.push_head.new.out.items ≡ head_lines d = c.in_ok-push_head.ensures
    ∙ ap (λ (x : List ℕ). x ++ head_lines d) c.new-out.ensures.items in
    let items : c.as_slice.result.now ≡ d.items = c.as_slice.ensures.items
    ∙ ap (λ (d : DocValue). d.items) c.doc.view_is in
    c.in_ok-push_items.ensures
    ∙ ap (λ (x : List ℕ). x ++ flat_map item_line c.as_slice.result.now) head
    ∙ ap (λ (xs : List Item). head_lines d ++ flat_map item_line xs) items
