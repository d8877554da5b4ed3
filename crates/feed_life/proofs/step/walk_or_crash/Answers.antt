use Rattle.std.proofs.Common.{List, Option, Some, OnOk, sym, subst}
use Rattle.feed_disk.specs.Memory.{MemoryValue}
use Rattle.feed_life.specs.Life.{IsMirrorOf, IsStoreOf}
use Rattle.feed_life.specs.Mirrors.{LeavesWalked}
use Rattle.feed_life.specs.declared.event.Stop.{Stop}
use Rattle.member_rules.specs.declared.operation.Op.{Op}
use Rattle.mirror_walk.specs.Holding.{KeptValue}
use Rattle.feed_life.proofs.step.walk_or_crash.Goals as goal

pub returns-in-None-clause-walked : goal.returns-in-None-clause-walked
returns-in-None-clause-walked c =
    subst (λ (stop : Option Stop). OnOk c.walk.result ((history : List Op) (kept : List KeptValue)
    → IsStoreOf c.args.head.now history c.args.store_disk.now → IsMirrorOf c.args.head.now history c.args.disk.now kept
    → LeavesWalked c.args.head.now history stop kept c.args.disk.now c.walk.new.disk)) (sym c.in-None.is)
    c.walk.ensures.walked

pub returns-in_ok-left-in-Some-clause-walked : goal.returns-in_ok-left-in-Some-clause-walked
returns-in_ok-left-in-Some-clause-walked c history kept is_store is_mirror =
    subst (λ (stop : Option Stop). LeavesWalked c.args.head.now history stop kept c.args.disk.now c.replace.new.dest)
    (sym c.in-Some.is)
    (subst (λ (disk : MemoryValue). LeavesWalked c.args.head.now history (Some c.in-Some.stop) kept c.args.disk.now disk)
    (sym c.replace.ensures.after) (c.in_ok-left-in-Some.ensures.walked history kept is_store is_mirror))
