use Rattle.std.proofs.Common.{arith}
use Rattle.member_rules.specs.Windows.{windows_of}
use Rattle.archive_sealer.proofs.PlaceLemmas.{place-filled}
use Rattle.archive_sealer.proofs.place.place_after.Goals as goal

pub next-place-requires-clause-filled : goal.next-place-requires-clause-filled
unfolding windows_of
next-place-requires-clause-filled c =
    place-filled c.args.head.now.window c.args.history.now c.loop-place.place c.loop-place.invariant.of
    (omega (arith, c.requires.filled))
