use Rattle.std.proofs.Common.{ap, ◌∙◌, subst}
use Rattle.std.specs.BTreeMap.Range.{IsRangeOf}
use Rattle.std.specs.declared.ops.Bound.TheVariants.{Excluded, Unbounded}
use Rattle.std.specs.Ordering.{nat_cmp}
use Rattle.mirror_walk.specs.Holding.{HeldValue}
use Rattle.mirror_walk.specs.Listing.{IsNextLive}
use Rattle.mirror_walk.proofs.NextLiveLemmas.{IsNextLive-range}
use Rattle.mirror_walk.proofs.documents.Documents.next_live.Goals as goal

pub returns-clause-found : goal.returns-clause-found
returns-clause-found c =
    let live = c.self.inside.map.entries in
    let listing = c.self.invariant.listing (ap (λ (v : HeldValue). v.listed) c.self.view_is ∙ c.requires) in
    let range = subst (λ range. IsRangeOf nat_cmp (Excluded c.args.after) Unbounded live range)
    c.in_ok-number.ensures.steps (c.range.ensures.in_range tt) in
    subst (λ (v : HeldValue). IsNextLive v.kept c.args.after c.in_ok-number.number.now) c.self.view_is
    (IsNextLive-range c.self.inside.kept.items live c.args.after c.in_ok-number.number.now
    c.in_ok-number.field-0-1.now
    c.next.new.self listing.entries range)
