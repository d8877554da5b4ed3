use Rattle.std.proofs.Common.{List, ℕ, reverse, take, sym, ◌∙◌, ap, subst}
use Rattle.feed_disk.specs.AreaRecord.{IsRecorded}
use Rattle.feed_disk.specs.ImageOf.{until}
use Rattle.feed_disk.specs.declared.change.Change.{Change}
use Rattle.feed_disk.proofs.CutLemmas.{recorded_until}
use Rattle.feed_disk.proofs.area_record.AreaRecord.image.Goals as goal

pub image_by-requires : goal.image_by-requires
image_by-requires c =
    let first = c.self.inside.first in
    let items = c.self.inside.changes.items in
    let until_is = ap (λ (l : List Change). reverse (take c.count_until.result l))
    (c.deref.ensures.value ∙ sym c.deref-2.ensures.value) ∙ c.count_until.ensures.changes
    ∙ ap (λ (l : List Change). until c.args.call (reverse l)) c.deref-2.ensures.value in
    subst (λ (f : List ℕ). IsRecorded f (reverse (take c.count_until.result c.deref.result.now))) (sym c.slice.ensures)
    (subst (IsRecorded first) (sym until_is)
    (recorded_until first c.args.call (reverse items) c.self.invariant.recorded))
