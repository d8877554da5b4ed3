use Rattle.std.proofs.Common.{◌∙◌, refl}
use Rattle.feed_drill.proofs.RequestLemmas.{body-is, title-read}
use Rattle.feed_drill.proofs.request.entry.Goals as goal

pub returns-clause-body : goal.returns-clause-body
returns-clause-body c =
    body-is c.args.turn c.in_ok-body.body.items c.extend_from_slice.new.self.items c.extend_from_slice-2.new.self.items
    c.in_ok-title.title.items c.as_slice.result.now c.from_vec.result c.in_ok-body.ensures.items
    c.as_slice.ensures.value
    c.in_ok-title.ensures.title c.in_ok-extend_from_slice.ensures.items c.in_ok-extend_from_slice-2.ensures.items
    c.from_vec.ensures

pub returns-clause-read : goal.returns-clause-read
returns-clause-read c =
    title-read c.args.turn c.as_slice-2.result.now c.as_slice-3.result.now
    (body-is c.args.turn c.in_ok-body.body.items c.extend_from_slice.new.self.items c.extend_from_slice-2.new.self.items
    c.in_ok-title.title.items c.as_slice.result.now c.as_slice-2.result.now c.in_ok-body.ensures.items
    c.as_slice.ensures.value c.in_ok-title.ensures.title c.in_ok-extend_from_slice.ensures.items
    c.in_ok-extend_from_slice-2.ensures.items c.as_slice-2.ensures.value)
    (c.as_slice-3.ensures.value ∙ c.in_ok-title.ensures.title) (c.if-not-reads_as_title.ensures refl)
