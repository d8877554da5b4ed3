use Rattle.std.proofs.Common.{◌≡◌, ◌+◌, ◌<◌, List, [], ◌∷◌, ◌++◌, length, sym, ap, subst, arith}
use Rattle.feed_journal.specs.Limits.{payload_count_limit}
use Rattle.feed_journal.specs.Log.{LogValue, KeepsLog}
use Rattle.feed_journal.specs.declared.extent.Extent.{Extent}
use Rattle.feed_journal.proofs.ExtentLemmas.{keeps_push}
use Rattle.feed_journal.proofs.frames.Frames.add.Goals as goal

pub invariant_of-self : goal.invariant_of-self
invariant_of-self c =
    let extents = c.self.inside.extents.list in
    let size = c.self.inside.size in
    let extent : Extent = record { offset = size + 4; length = c.args.length } in
    let few : length extents < payload_count_limit =
    omega (arith, ap (λ (v : LogValue). length v.extents) c.self.view_is, c.requires.room.few) in
    let end : size + c.args.length + 5 ≡ size + (c.from.result + 5) = omega (arith, c.from.ensures) in
    subst (λ (l : List Extent). KeepsLog l (size + (c.from.result + 5))) (sym c.with-self-inside.ensures)
    (subst (KeepsLog (extents ++ extent ∷ [])) end
    (keeps_push extents size c.args.length c.self.invariant few c.requires.small))

pub returns-clause-rules : goal.returns-clause-rules
returns-clause-rules c =
    let extents = c.self.inside.extents.list in
    let size = c.self.inside.size in
    let extent : Extent = record { offset = size + 4; length = c.args.length } in
    let few : length extents < payload_count_limit =
    omega (arith, ap (λ (v : LogValue). length v.extents) c.self.view_is, c.requires.room.few) in
    let end : size + c.args.length + 5 ≡ size + (c.from.result + 5) = omega (arith, c.from.ensures) in
    subst (λ (l : List Extent). KeepsLog l (size + (c.from.result + 5))) (sym c.with-self-inside.ensures)
    (subst (KeepsLog (extents ++ extent ∷ [])) end
    (keeps_push extents size c.args.length c.self.invariant few c.requires.small))
