use Rattle.std.specs.Prelude.{pos}
use Rattle.member_rules.specs.Table.{IsTableOf}
use Rattle.documents_tests.proofs.generated.expect_run.Given as goal

abbrev pub invariant-loop-round : goal.invariant-loop-round
invariant-loop-round g l = IsTableOf l.feed.members (pos 0) l.feed.history.items
