use Rattle.std.proofs.Common.{◌≡◌, ◌+◌, ◌-◌, length, List, ap, sym, subst, ◌∙◌, arith}
use Rattle.std.specs.Prelude.{map, nat_eq}
use Rattle.std.specs.List.{IsDistinct}
use Rattle.mirror_walk.specs.declared.mark.ItemMark.{ItemMark}
use Rattle.mirror_walk.specs.Index.{LaysOver}
use Rattle.mirror_walk.specs.Marks.{marked_number}
use Rattle.mirror_walk.proofs.EntriesLemmas.{marked_numbers-of}
use Rattle.mirror_walk.proofs.ListedItemsLemmas.{AreMembers-none}
use Rattle.coverage_auditor.specs.LiveList.{entry_place}
use Rattle.coverage_auditor.proofs.DigestLemmas.{listed-more, listed-none}
use Rattle.coverage_auditor.proofs.live.live_places.Goals as goal

pub loop-older-init : goal.loop-older-init
loop-older-init c = record {
  entries = listed-none c.args.chain.now c.new-live.result c.new-live.ensures.empty;
  members = AreMembers-none c.new-live.result c.new-live.ensures.empty;
}

pub list_items-requires-clause-distinct : goal.list_items-requires-clause-distinct
list_items-requires-clause-distinct c =
    subst (IsDistinct nat_eq)
    (sym (ap (map marked_number) c.items.ensures.marks ∙ marked_numbers-of c.document.result.now.items))
    c.items.ensures.rules.distinct

pub loop-older-preserved : goal.loop-older-preserved
loop-older-preserved c =
    let documents = c.args.chain.now in
    let older = c.loop-older.older in
    let document = c.document.result.now in
    let at = c.len-count.result - 1 - older in
    let next : at + 1 ≡ length documents - older = omega (arith, c.len-count.ensures, c.loop-older-test.true) in
    let laid = subst (λ (marks : List ItemMark). LaysOver marked_number (entry_place at) marks c.loop-older.live
    c.list_items.new.live) c.items.ensures.marks c.in_ok-list_items.ensures.items in
    record {
      entries = listed-more documents older at document c.loop-older.live c.list_items.new.live next
          c.document.ensures laid c.loop-older.invariant.entries;
      members = c.in_ok-list_items.ensures.members c.loop-older.invariant.members;
    }
