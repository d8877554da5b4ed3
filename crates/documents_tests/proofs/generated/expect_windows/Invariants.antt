use Rattle.std.proofs.Common.{◌≤◌, length}
use Rattle.archive_sealer.specs.Window.{IsOfFeed}
use Rattle.documents_tests.proofs.generated.expect_windows.Given as goal

abbrev pub invariant-loop-count : goal.invariant-loop-count
invariant-loop-count g l = IsOfFeed l.window l.head × (length l.window.history ≤ l.count)
