use Rattle.std.proofs.Common.{sym, subst}
use Rattle.feed_disk.specs.Memory.{MemoryValue, state_of}
use Rattle.feed_recovery.specs.Settled.{Unused}
use Rattle.feed_life.proofs.NewLemmas.{empty-unused}
use Rattle.feed_life.proofs.lives.store_disk.Goals as goal

pub returns-in-Ok-clause-store : goal.returns-in-Ok-clause-store
returns-in-Ok-clause-store c = record {
  seals = 0;
  opens = c.in-Ok.ensures.opens tt;
  settled = c.in-Ok.ensures.settled tt
      (subst (λ (disk : MemoryValue). Unused (state_of disk)) (sym c.new_disk-disk.ensures) empty-unused);
}
