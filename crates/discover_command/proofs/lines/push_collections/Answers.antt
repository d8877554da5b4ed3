use Rattle.std.proofs.Common.{ℕ, ◌∷◌, ◌++◌, [], List, take, flat_map, ap, sym, ◌∙◌}
use Rattle.std.proofs.lemmas.List.{take_more, flat_map_more}
use Rattle.service_reader.specs.declared.values.Collection.{Collection}
use Rattle.discover_command.specs.Lines.{collection_line}
use Rattle.discover_command.proofs.lines.push_collections.Goals as goal

pub loop-collection-preserved : goal.loop-collection-preserved
loop-collection-preserved c =
    let collections = c.args.collections.now in
    let i = c.loop-collection.collection-index in
    let before = c.args.out.now.items in
    let collection = c.collection-item.result in
    let more = take_more collections i collection c.loop-collection-test.true in
    c.in_ok-push_collection.ensures
    ∙ ap (λ (x : List ℕ). x ++ collection_line collection) c.loop-collection.invariant
    ∙ flat_map_more collection_line before (take i collections) collection
    ∙ ap (λ (xs : List Collection). before ++ flat_map collection_line xs)
    (sym (more ∙ ap (λ (x : Collection). take i collections ++ x ∷ []) (sym c.collection-item.is)))
