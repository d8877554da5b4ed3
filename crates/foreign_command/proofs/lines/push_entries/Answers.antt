use Rattle.std.proofs.Common.{ℕ, ◌∷◌, ◌++◌, [], List, take, flat_map, ap, sym, ◌∙◌}
use Rattle.std.proofs.lemmas.List.{take_more, flat_map_more}
use Rattle.feed_reader.specs.declared.values.ForeignEntry.{ForeignEntry}
use Rattle.foreign_command.specs.Lines.{entry_line}
use Rattle.foreign_command.proofs.lines.push_entries.Goals as goal

pub loop-entry-preserved : goal.loop-entry-preserved
loop-entry-preserved c =
    let live = c.args.live.now in
    let i = c.loop-entry.entry-index in
    let before = c.args.out.now.items in
    let entry = c.entry-item.result in
    let more = take_more live i entry c.loop-entry-test.true in
    c.in_ok-push_entry.ensures
    ∙ ap (λ (x : List ℕ). x ++ entry_line entry) c.loop-entry.invariant
    ∙ flat_map_more entry_line before (take i live) entry
    ∙ ap (λ (xs : List ForeignEntry). before ++ flat_map entry_line xs)
    (sym (more ∙ ap (λ (x : ForeignEntry). take i live ++ x ∷ []) (sym c.entry-item.is)))
