use Rattle.std.proofs.Common.{map, []}
use Rattle.feed_life.proofs.NewLemmas.{new-lives}
use Rattle.feed_life.proofs.lives.Life.new.Goals as goal

pub invariant_of-result : goal.invariant_of-result
invariant_of-result c kept = record {
  history = [];
  held = map (λ _. []) c.in-Ok-empty_disks.mirrors.items;
  lives = new-lives c.in_ok-head.head c.in-Ok.disk c.in-Ok-empty_disks.mirrors.items c.new.result.items
      c.in-Ok.ensures.head c.sealed_windows_are_full.ensures c.in-Ok.ensures.store
      c.in-Ok-empty_disks.ensures.empty c.new.ensures.items;
}

pub returns-clause-lives : goal.returns-clause-lives
returns-clause-lives c =
    new-lives c.in_ok-head.head c.in-Ok.disk c.in-Ok-empty_disks.mirrors.items c.new.result.items
    c.in-Ok.ensures.head c.sealed_windows_are_full.ensures c.in-Ok.ensures.store
    c.in-Ok-empty_disks.ensures.empty c.new.ensures.items
