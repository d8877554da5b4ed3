use Rattle.std.proofs.Common.{◌≡◌, ◌++◌, filter_map}
use Rattle.foreign_entries.specs.Added.{live_entry}
use Rattle.foreign_entries.proofs.live.LiveEntries.into_live.Given as goal

abbrev pub invariant-loop-member : goal.invariant-loop-member
invariant-loop-member l =
    l.live.items ++ filter_map (λ e. live_entry e.1) l.member-iterator
    ≡ filter_map (λ e. live_entry e.1) l.fn.self.members.entries
