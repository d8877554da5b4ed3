use Rattle.mirror_walk.proofs.MirrorLemmas.{taken_are_shown}
use Rattle.mirror_walk.proofs.held.Held.outcome.Goals as goal

pub returns-clause-served : goal.returns-clause-served
returns-clause-served c = taken_are_shown c.args.self.now.base c.args.self.now.kept
