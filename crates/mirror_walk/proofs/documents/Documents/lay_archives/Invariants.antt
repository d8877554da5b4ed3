use Rattle.std.proofs.Common.{◌≡◌}
use Rattle.mirror_walk.specs.Index.{IsBare}
use Rattle.mirror_walk.proofs.documents.Documents.lay_archives.Given as goal

abbrev pub invariant-loop-before : goal.invariant-loop-before
invariant-loop-before l = record {
  bare : IsBare l.self.kept l.map;
  last : l.map.last ≡ l.before;
}
