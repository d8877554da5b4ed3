use Rattle.std.proofs.Common.{ap, filter_map, subst, sym}
use Rattle.foreign_entries.specs.Added.{live_entry}
use Rattle.foreign_entries.specs.Live.{IsForeignLive}
use Rattle.foreign_entries.proofs.AddedLemmas.{none_left}
use Rattle.foreign_entries.proofs.LiveLemmas.{live_from_members}
use Rattle.foreign_entries.proofs.live.LiveEntries.into_live.Goals as goal

pub returns : goal.returns
returns c = λ documents tallies.
    subst (IsForeignLive documents)
    (sym (none_left c.loop-member.live.items _ _ c.loop-member.invariant
    (ap (filter_map (λ e. live_entry e.1)) c.in-None.ensures.steps.0)))
    (live_from_members documents c.args.self tallies c.into_iter-member-iterator.ensures.into_iter_gives.5)
