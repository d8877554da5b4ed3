use Rattle.std.proofs.Common.{refl}
use Rattle.foreign_mirror.proofs.walk.Progress.finish.Goals as goal

pub returns-clause-found : goal.returns-clause-found
returns-clause-found c = λ documents taken.
    record { docs = taken.docs; live = c.in_ok-live.ensures documents taken.live; end = refl }
