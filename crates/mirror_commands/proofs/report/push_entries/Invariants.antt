use Rattle.std.proofs.Common.{◌-◌, ◌^◌}
use Rattle.mirror_commands.proofs.ListingLemmas.{IsListing}
use Rattle.mirror_commands.proofs.report.push_entries.Given as goal

abbrev pub invariant-loop-number : goal.invariant-loop-number
invariant-loop-number g l = IsListing g.D.Disk.observable l.fn.mirror (g.D.Disk.state l.fn.disk) (g.D.Disk.state l.disk)
    l.mirror l.fn.out.items l.out.items l.after

abbrev pub decreases-loop-number : goal.decreases-loop-number
decreases-loop-number g l = 2 ^ 32 - l.after
