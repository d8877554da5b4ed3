use Rattle.std.proofs.Common.{◌≡◌, ◌≤◌, ◌-◌, ◌++◌, length}
use Rattle.feed_disk.specs.Raised.{RisesAtMost}
use Rattle.mirror_commands.specs.Audit.{audit_limit}
use Rattle.mirror_commands.specs.CertificatePart.{IsAmid}
use Rattle.mirror_commands.proofs.certificate_part.read_part.Given as goal

abbrev pub invariant-loop-text : goal.invariant-loop-text
invariant-loop-text g l = record {
  amid : IsAmid l.text.items l.start;
  within : length l.text.items ≤ audit_limit;
  left : g.I.Source.observable → (g.I.Source.state l.fn.input).left ≡ l.text.items ++ (g.I.Source.state l.input).left;
  read : RisesAtMost (length l.text.items) (g.I.Source.state l.fn.input).bytes_read (g.I.Source.state l.input).bytes_read;
  faults : (g.I.Source.state l.input).faults ≡ (g.I.Source.state l.fn.input).faults;
}

abbrev pub decreases-loop-text : goal.decreases-loop-text
decreases-loop-text g l = audit_limit - length l.text.items
