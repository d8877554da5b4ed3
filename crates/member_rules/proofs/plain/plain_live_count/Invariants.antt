use Rattle.std.proofs.Common.{◌≡◌, ◌≤◌}
use Rattle.member_rules.specs.Fold.{fold_of, count_up_to}
use Rattle.member_rules.proofs.plain.plain_live_count.Given as goal

abbrev pub invariant-loop-before : goal.invariant-loop-before
invariant-loop-before l = (l.live ≡ count_up_to (fold_of l.history).live l.before) × (l.live ≤ l.before)
