use Rattle.store_commands.specs.Lines.{ReadsAllowed}
use Rattle.store_commands.proofs.LinesLemmas.{GoesOn}
use Rattle.store_commands.proofs.lines.Lines.next.Given as goal

abbrev pub invariant-loop-self : goal.invariant-loop-self
invariant-loop-self g l = record {
  goes_on : GoesOn g.I.Source.observable l.fn.self (g.I.Source.state l.fn.input) l.self (g.I.Source.state l.input);
  read : ReadsAllowed l.fn.self l.self 0 (g.I.Source.state l.fn.input).bytes_read (g.I.Source.state l.input).bytes_read;
}

abbrev pub decreases-loop-self : goal.decreases-loop-self
decreases-loop-self g l = l.self.allowed
