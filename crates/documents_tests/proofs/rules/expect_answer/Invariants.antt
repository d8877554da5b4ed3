use Rattle.std.specs.Prelude.{pos}
use Rattle.member_rules.specs.Table.{IsTableOf}
use Rattle.documents_tests.proofs.rules.expect_answer.Given as goal

abbrev pub invariant-loop-step : goal.invariant-loop-step
invariant-loop-step g l = IsTableOf l.feed.members (pos 0) l.feed.history.items
