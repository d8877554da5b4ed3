use Rattle.std.proofs.Common.{◌≡◌, ◌+◌, List, take, drop, refl, ap, ◌∙◌}
use Rattle.member_rules.specs.Latest.{latest}
use Rattle.member_rules.specs.Windows.{size_set}
use Rattle.member_rules.specs.declared.operation.Op.{Op}
use Rattle.archive_sealer.proofs.PlaceLemmas.{place-next}
use Rattle.archive_sealer.proofs.place.Place.next.Goals as goal

pub returns-clause-place : goal.returns-clause-place
returns-clause-place c first of =
    let place = c.args.self in
    let operations : c.split_at-2.result.1.now ≡ drop place.before (take (place.before + place.size) c.args.history.now) =
    c.split_at-2.ensures.back ∙ ap (drop place.before) c.split_at.ensures.front in
    place-next first c.args.history.now place _ of refl refl c.requires.filled
    (c.size_after.ensures ∙ ap (λ (some : List Op). latest size_set place.size some) operations)
