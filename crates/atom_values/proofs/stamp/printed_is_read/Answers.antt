use Rattle.atom_values.proofs.PrintedLemmas.{printed-states}
use Rattle.atom_values.proofs.stamp.printed_is_read.Goals as goal

pub returns : goal.returns
returns c = printed-states
