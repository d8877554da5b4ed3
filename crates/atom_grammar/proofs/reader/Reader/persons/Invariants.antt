use Rattle.std.proofs.Common.{◌≤◌, length}
use Rattle.atom_grammar.specs.Items.{person}
use Rattle.atom_grammar.proofs.ManyLemmas.{IsGathered}
use Rattle.atom_grammar.proofs.reader.Reader.persons.Given as goal

abbrev pub invariant-loop-alloc : goal.invariant-loop-alloc
invariant-loop-alloc l = record {
  few : length l.persons.items ≤ 16;
  gathered : IsGathered (person l.start l.end) l.fn.self.rest.now l.persons.items l.self.rest.now;
}

abbrev pub decreases-loop-alloc : goal.decreases-loop-alloc
decreases-loop-alloc l = length l.self.rest.now
