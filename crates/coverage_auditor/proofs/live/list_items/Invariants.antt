use Rattle.mirror_walk.specs.Index.{AreMembers}
use Rattle.mirror_walk.specs.Marks.{marked_number}
use Rattle.mirror_walk.proofs.ListedItemsLemmas.{LaidUpTo}
use Rattle.coverage_auditor.specs.LiveList.{entry_place}
use Rattle.coverage_auditor.proofs.live.list_items.Given as goal

abbrev pub invariant-loop-at : goal.invariant-loop-at
invariant-loop-at l = record {
  laid : LaidUpTo marked_number (entry_place l.document) l.items l.at l.initial.live l.live;
  members : AreMembers l.initial.live → AreMembers l.live;
}
