use Rattle.std.proofs.Common.{refl}
use Rattle.atom_grammar.proofs.ProgressLemmas.{nothing_left}
use Rattle.atom_grammar.proofs.progress.Progress.new.Goals as goal

pub returns-clause-going : goal.returns-clause-going
returns-clause-going c = record { keeps = tt; cut = nothing_left c.new.result.items c.new.ensures.items; used = refl }
