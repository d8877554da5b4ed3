use Rattle.std.proofs.Common.{◌≡◌, Some, refl}
use Rattle.std.specs.Prelude.{slice_get}
use Rattle.std.proofs.lemmas.Option.{slice_get_read}
use Rattle.archive_sealer.proofs.CopiesLemmas.{IsWalked-more, IsWalked-all, walked-there, walked-contains}
use Rattle.archive_sealer.proofs.window.copies.Goals as goal

pub bounds-items-slot : goal.bounds-items-slot
bounds-items-slot c =
    walked-there c.args.items.now c.args.order.now c.loop-next.next c.loop-next.copies.items c.loop-next.invariant
    c.in-Some.slot c.in-Some.is c.requires

pub older-next-requires : goal.older-next-requires
older-next-requires c =
    walked-contains c.args.items.now c.args.order.now c.loop-next.next c.loop-next.copies.items c.loop-next.invariant
    c.in-Some.slot c.in-Some.is

pub loop-next-preserved : goal.loop-next-preserved
loop-next-preserved c =
    let there = walked-there c.args.items.now c.args.order.now c.loop-next.next c.loop-next.copies.items
    c.loop-next.invariant c.in-Some.slot c.in-Some.is c.requires in
    let here : slice_get c.args.items.now c.in-Some.slot ≡ Some c.index-items-slot.result =
    slice_get_read c.args.items.now _ c.in-Some.slot c.index-items-slot.result refl there c.index-items-slot.is in
    IsWalked-more c.args.items.now c.args.order.now c.loop-next.next c.loop-next.copies.items c.loop-next.invariant
    c.in-Some.slot c.in-Some.is c.index-items-slot.result c.push_copy.new.copies.items c.older-next.result here
    c.in_ok-push_copy.ensures c.older-next.ensures.next

pub returns : goal.returns
returns c =
    IsWalked-all c.args.items.now c.args.order.now c.loop-next.next c.loop-next.copies.items c.loop-next.invariant
    c.in_default.is
