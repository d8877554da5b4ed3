use Rattle.std.proofs.Common.{◌-◌, drop, length}
use Rattle.mirror_walk.specs.Index.{AreMembers}
use Rattle.coverage_auditor.specs.LiveList.{HasEntries}
use Rattle.coverage_auditor.proofs.live.live_places.Given as goal

abbrev pub invariant-loop-older : goal.invariant-loop-older
invariant-loop-older l = record {
  entries : HasEntries l.chain (drop (length l.chain - l.older) l.chain) l.live;
  members : AreMembers l.live;
}
