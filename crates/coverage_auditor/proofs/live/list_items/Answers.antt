use Rattle.std.proofs.Common.{◌≡◌, ◌≤◌, ◌<◌, ◌^◌, Some, get_or, length, subst, arith}
use Rattle.std.specs.Prelude.{slice_get}
use Rattle.std.proofs.lemmas.Option.{slice_get-get_or}
use Rattle.mirror_walk.specs.declared.mark.ItemMark.TheVariants.{Live}
use Rattle.mirror_walk.specs.Marks.{marked_number}
use Rattle.mirror_walk.proofs.ListedItemsLemmas.{AreMembers-more, LaidUpTo, LaysOver-laid, from_one-at}
use Rattle.mirror_walk.proofs.ListedItemsLemmas.{laid-more}
use Rattle.coverage_auditor.specs.LiveList.{entry_place}
use Rattle.coverage_auditor.proofs.live.list_items.Goals as goal

pub loop-at-preserved : goal.loop-at-preserved
loop-at-preserved c =
    let items = c.args.items.now in
    let at = c.loop-at.at in
    let item = get_or items at (Live 0) in
    let updates = c.in_ok-list_item.ensures.updates in
    let there : slice_get items at ≡ Some item = slice_get-get_or items at (Live 0) (omega arith) in
    let within : (1 ≤ marked_number item) × (marked_number item < 2 ^ 32) =
    (from_one-at items at item c.requires.from_one there, c.list_item.ensures.small) in
    record {
      laid = laid-more marked_number (entry_place c.args.document) items at item c.args.live.now c.loop-at.live
          c.list_item.new.live c.requires.distinct there c.loop-at.invariant.laid updates;
      members = λ members. AreMembers-more (marked_number item) (entry_place c.args.document at item)
          c.loop-at.live c.list_item.new.live within updates (c.loop-at.invariant.members members);
    }

pub returns-clause-items : goal.returns-clause-items
returns-clause-items c =
    let all : c.loop-at.at ≡ length c.args.items.now = omega arith in
    LaysOver-laid marked_number (entry_place c.args.document) c.args.items.now c.args.live.now c.loop-at.live
    (subst (λ n. LaidUpTo marked_number (entry_place c.args.document) c.args.items.now n c.args.live.now
    c.loop-at.live) all c.loop-at.invariant.laid)
