use Rattle.std.proofs.Common.{◌≤◌, length, take, reverse, ap, arith}
use Rattle.feed_disk.specs.DiskLaw.{length-written}
use Rattle.feed_disk.specs.Pending.{applied}
use Rattle.feed_disk.proofs.SplitLemmas.{reaches_at, reaches_write}
use Rattle.feed_disk.proofs.image.apply.Goals as goal

pub overwrite-requires : goal.overwrite-requires
overwrite-requires c =
    let reaches = reaches_at c.args.changes.now c.loop-change.change-index c.change-item.result c.loop-change-test.true
    c.change-item.is c.args.bytes.now.items c.requires.reaches in
    let there : c.in-Write.at ≤ length (applied c.args.bytes.now.items
    (reverse (take c.loop-change.change-index c.args.changes.now))) =
    reaches_write c.args.bytes.now.items c.change-item.result _ c.in-Write.at c.in-Write.from reaches
    c.in-Write.is in
    omega (arith, there, ap length c.loop-change.invariant.bytes)

pub mark-requires-clause-offset : goal.mark-requires-clause-offset
mark-requires-clause-offset c =
    let reaches = reaches_at c.args.changes.now c.loop-change.change-index c.change-item.result c.loop-change-test.true
    c.change-item.is c.args.bytes.now.items c.requires.reaches in
    let there : c.in-Write.at ≤ length (applied c.args.bytes.now.items
    (reverse (take c.loop-change.change-index c.args.changes.now))) =
    reaches_write c.args.bytes.now.items c.change-item.result _ c.in-Write.at c.in-Write.from reaches
    c.in-Write.is in
    omega (arith, there, ap length c.loop-change.invariant.bytes, c.loop-change.invariant.same_size)

pub mark-requires-clause-fits : goal.mark-requires-clause-fits
mark-requires-clause-fits c =
    let reaches = reaches_at c.args.changes.now c.loop-change.change-index c.change-item.result c.loop-change-test.true
    c.change-item.is c.args.bytes.now.items c.requires.reaches in
    let there : c.in-Write.at ≤ length (applied c.args.bytes.now.items
    (reverse (take c.loop-change.change-index c.args.changes.now))) =
    reaches_write c.args.bytes.now.items c.change-item.result _ c.in-Write.at c.in-Write.from reaches
    c.in-Write.is in
    omega (
      arith,
      there,
      ap length c.loop-change.invariant.bytes,
      ap length c.in_ok-overwrite-in-Write.ensures.ok,
      length-written c.loop-change.bytes.items c.in-Write.at c.slice.result.now,
      ap length c.slice.ensures,
      ap length c.slice-in-Write.ensures,
      c.overwrite.new.bytes.ok.0,
      c.overwrite.new.bytes.small,
    )
