use Rattle.std.proofs.Common.{arith}
use Rattle.archive_sealer.proofs.PlaceLemmas.{place-last}
use Rattle.archive_sealer.proofs.place.last_place.Goals as goal

pub returns-clause-last : goal.returns-clause-last
returns-clause-last c =
    place-last c.args.head.now.window c.args.history.now c.loop-place.place c.args.count c.loop-place.invariant.of
    c.loop-place.invariant.within (omega arith)
