use Rattle.std.proofs.Common.{◌≡◌, length}
use Rattle.member_rules.proofs.FieldLemmas.{IsGathered}
use Rattle.member_rules.proofs.codec.lists.read_list.Given as goal

abbrev pub invariant-loop : goal.invariant-loop
invariant-loop g l = record {
  gathered : IsGathered g.T.Coded.field l.fn.unread.rest.now l.count l.items.items l.left.rest.now;
  size : length l.items.items ≡ l.counter;
}
