use Rattle.std.proofs.Common.{◌≡◌, ◌≤◌, ◌-◌, length}
use Rattle.feed_disk.specs.Raised.{RisesAtMost}
use Rattle.store_commands.specs.Show.{document_limit}
use Rattle.store_commands.proofs.ShowLemmas.{HasGiven}
use Rattle.store_commands.proofs.show.read_to_end.Given as goal

abbrev pub invariant-loop-count : goal.invariant-loop-count
invariant-loop-count g l = record {
  buffer : length l.buffer.items ≡ 65_536;
  within : l.reader.length ≤ document_limit;
  given : HasGiven g.I.Source.observable l.reader (g.I.Source.state l.fn.input).left (g.I.Source.state l.input).left;
  read : RisesAtMost l.reader.length (g.I.Source.state l.fn.input).bytes_read (g.I.Source.state l.input).bytes_read;
  faults : (g.I.Source.state l.input).faults ≡ (g.I.Source.state l.fn.input).faults;
}

abbrev pub decreases-loop-count : goal.decreases-loop-count
decreases-loop-count g l = document_limit - l.reader.length
