use Rattle.std.proofs.Common.{length, reverse, nat_cmp}
use Rattle.std.specs.BTreeSet.{contains}
use Rattle.archive_sealer.proofs.ItemsStepLemmas.{Taken}
use Rattle.archive_sealer.proofs.items.items.Given as goal

abbrev pub invariant-loop-operation : goal.invariant-loop-operation
invariant-loop-operation l = Taken (contains nat_cmp l.met) l.items.items (length l.yielded) (reverse l.span)
