use Rattle.std.proofs.Common.{◌≡◌, List, ◌++◌}
use Rattle.std.specs.Vec.Iter.{into_iter_items}
use Rattle.feed_reader.specs.declared.values.ForeignGone.{ForeignGone}
use Rattle.foreign_entries.specs.Added.{AddsTombstones}
use Rattle.foreign_entries.proofs.live.LiveEntries.add_tombstones.Given as goal

abbrev pub invariant-loop-gone : goal.invariant-loop-gone
invariant-loop-gone l =
    (done : List ForeignGone) × (done ++ into_iter_items l.gone-iterator ≡ l.fn.gone.items)
    × AddsTombstones done l.fn.self l.self
