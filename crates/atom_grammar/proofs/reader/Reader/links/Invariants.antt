use Rattle.std.proofs.Common.{◌≤◌, length}
use Rattle.atom_grammar.specs.Items.{link}
use Rattle.atom_grammar.proofs.ManyLemmas.{IsGathered}
use Rattle.atom_grammar.proofs.reader.Reader.links.Given as goal

abbrev pub invariant-loop-alloc : goal.invariant-loop-alloc
invariant-loop-alloc l = record {
  few : length l.links.items ≤ 32;
  gathered : IsGathered (link) l.fn.self.rest.now l.links.items l.self.rest.now;
}

abbrev pub decreases-loop-alloc : goal.decreases-loop-alloc
decreases-loop-alloc l = length l.self.rest.now
