use Rattle.std.proofs.Common.{◌≡◌, ◌-◌, ◌++◌}
use Rattle.coverage_certificate.specs.Held.{lines_of}
use Rattle.coverage_certificate.proofs.HeldLemmas.{archives_to}
use Rattle.coverage_certificate.proofs.of.held_lines.Given as goal

abbrev pub invariant-loop-before : goal.invariant-loop-before
invariant-loop-before l = l.lines.items ++ archives_to l.mirror.kept (l.prev - l.before) ≡ lines_of l.mirror.kept l.prev
