use Rattle.std.proofs.Common.{◌-◌, length}
use Rattle.archive_sealer.proofs.CopiesLemmas.{IsWalked}
use Rattle.archive_sealer.proofs.window.copies.Given as goal

abbrev pub invariant-loop-next : goal.invariant-loop-next
invariant-loop-next l = IsWalked l.items l.order l.next l.copies.items

abbrev pub decreases-loop-next : goal.decreases-loop-next
decreases-loop-next l = length l.order.list - length l.copies.items
