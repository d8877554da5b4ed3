use Rattle.atom_values.specs.Stamp.{clock_text}
use Rattle.atom_values.proofs.stamp.clock_digits.Goals as goal

pub returns : goal.returns
unfolding clock_text
returns c = cc
