use Rattle.std.proofs.Common.{◌≡◌, ◌-◌}
use Rattle.foreign_mirror.specs.Walk.{document_limit}
use Rattle.foreign_mirror.proofs.SoFarLemmas.{IsSoFar}
use Rattle.foreign_mirror.proofs.walk.Progress.run.Given as goal

abbrev pub invariant-addresses : goal.invariant-addresses
invariant-addresses g l =
    let before = g.F.Fetch.state l.fn.fetch in
    let after = g.F.Fetch.state l.fetch in
    record {
      so_far : IsSoFar g.F.Fetch.observable before after l.fn.from l.next l.self;
      answers : after.answers ≡ before.answers;
      faults : after.faults ≡ before.faults;
    }

abbrev pub decreases-addresses : goal.decreases-addresses
decreases-addresses g l = document_limit - l.self.docs
