use Rattle.std.proofs.Common.{◌≡◌, ◌+◌, ℕ, length, take, drop, Some, sym, ◌∙◌, ap, subst, rules, arith}
use Rattle.std.specs.Prelude.{slice_get}
use Rattle.feed_journal.specs.Log.{LogValue, payloads_at}
use Rattle.feed_journal.specs.Records.{records}
use Rattle.feed_journal.proofs.ReadLemmas.{place_below, place_within, place_part}
use Rattle.feed_journal.proofs.frames.Frames.read_part.Goals as goal

pub overflow_add-extent : goal.overflow_add-extent
overflow_add-extent g c =
    let place : slice_get c.self.inside.extents.list c.args.index ≡ Some c.args.extent =
    subst (λ (v : LogValue). slice_get v.extents c.args.index ≡ Some c.args.extent) (sym c.self.view_is)
    c.requires.place in
    let ranges = c.self.ranges in
    omega (
      arith,
      place_below c.self.inside.extents.list c.args.index c.args.extent place c.self.inside.size
          c.self.invariant.follow,
      c.from.ensures,
      c.requires.inside,
    )

pub read_exactly-requires : goal.read_exactly-requires
read_exactly-requires g c = λ tells.
    let s = g.D.Disk.state c.args.disk.now in
    let extents = c.self.inside.extents.list in
    let listed : payloads_at extents (s.content c.self.inside.area) ≡ records (s.content c.self.inside.area) =
    subst (λ (v : LogValue). payloads_at v.extents (s.content v.area) ≡ records (s.content v.area))
    (sym c.self.view_is) (c.requires.listed tells) in
    let place : slice_get extents c.args.index ≡ Some c.args.extent =
    subst (λ (v : LogValue). slice_get v.extents c.args.index ≡ Some c.args.extent) (sym c.self.view_is)
    c.requires.place in
    let long : length c.in_ok-bytes.bytes.items ≡ c.args.count = search rules in
    omega (
      arith,
      place_within extents c.args.index c.args.extent place c.self.inside.size (s.content c.self.inside.area)
          c.self.invariant.follow listed,
      c.requires.inside,
      long,
    )

pub returns-in-Ok-true-clause-part : goal.returns-in-Ok-true-clause-part
returns-in-Ok-true-clause-part g c = λ tells payload is.
    let s = g.D.Disk.state c.args.disk.now in
    let offset = c.args.extent.offset in
    let long : length c.in_ok-bytes.bytes.items ≡ c.args.count = search rules in
    let bytes = subst (λ (v : LogValue). c.read_exactly.new.bytes.items
    ≡ take (length c.in_ok-bytes.bytes.items) (drop (offset + c.from.result) (s.content v.area))) c.self.view_is
    (c.in-Ok-true.ensures.bytes tells).1 in
    place_part c.args.self.now.extents c.args.index c.args.extent c.requires.place (s.content c.args.self.now.area)
    payload c.in_ok-bytes.bytes.items c.read_exactly.new.bytes.items c.args.at c.args.count (c.requires.listed tells) is
    c.requires.inside long
    (bytes ∙ ap (λ (n : ℕ). take (length c.in_ok-bytes.bytes.items) (drop (offset + n) (s.content c.args.self.now.area)))
    c.from.ensures)
