use Rattle.std.proofs.Common.{◌≡◌, refl, ap}
use Rattle.member_rules.specs.Head.{HeadValue}
use Rattle.archive_sealer.proofs.PlaceLemmas.{place-first}
use Rattle.archive_sealer.proofs.place.Place.first.Goals as goal

pub returns-clause-place : goal.returns-clause-place
returns-clause-place c history =
    let window : c.head.inside.window ≡ c.args.head.now.window = ap (λ (h : HeadValue). h.window) c.head.view_is in
    place-first c.args.head.now.window history _ (rw (← window) c.head.invariant.window) refl refl window
