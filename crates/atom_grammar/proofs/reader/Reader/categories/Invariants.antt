use Rattle.std.proofs.Common.{◌≤◌, length}
use Rattle.atom_grammar.specs.Items.{category}
use Rattle.atom_grammar.proofs.ManyLemmas.{IsGathered}
use Rattle.atom_grammar.proofs.reader.Reader.categories.Given as goal

abbrev pub invariant-loop-alloc : goal.invariant-loop-alloc
invariant-loop-alloc l = record {
  few : length l.categories.items ≤ 64;
  gathered : IsGathered (category) l.fn.self.rest.now l.categories.items l.self.rest.now;
}

abbrev pub decreases-loop-alloc : goal.decreases-loop-alloc
decreases-loop-alloc l = length l.self.rest.now
