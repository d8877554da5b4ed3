use Rattle.std.proofs.Common.{◌≡◌, List, ◌++◌}
use Rattle.std.specs.Vec.Iter.{into_iter_items}
use Rattle.feed_reader.specs.declared.values.ForeignEntry.{ForeignEntry}
use Rattle.foreign_entries.specs.Added.{AddsEntries}
use Rattle.foreign_entries.proofs.live.LiveEntries.add_entries.Given as goal

abbrev pub invariant-loop-entry : goal.invariant-loop-entry
invariant-loop-entry l =
    (done : List ForeignEntry) × (done ++ into_iter_items l.entry-iterator ≡ l.fn.entries.items)
    × AddsEntries done l.document_updated l.fn.self l.self
