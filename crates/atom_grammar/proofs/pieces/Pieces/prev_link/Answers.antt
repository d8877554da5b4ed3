use Rattle.std.proofs.Common.{refl, codes}
use Rattle.atom_grammar.specs.FeedParts.{prev_link, feed_link}
use Rattle.atom_grammar.proofs.FeedPartLemmas.{prev_found, prev_absent, prev_other}
use Rattle.atom_grammar.proofs.PieceLemmas.{found_here, stops_piece}
use Rattle.atom_grammar.proofs.pieces.Pieces.prev_link.Goals as goal

pub returns-in_err-number : goal.returns-in_err-number
returns-in_err-number c =
    let before = c.args.self.now.rest.now in
    stops_piece (feed_link (codes "prev-archive") c.args.base.now) (prev_link c.args.base.now)
    c.new-reader.result.rest.now before _ c.from_residual.result c.new-reader.ensures c.in_err-number.ensures
    c.from_residual.ensures.1
    (prev_absent c.args.base.now before)

pub returns-in_default : goal.returns-in_default
returns-in_default c =
    let before = c.args.self.now.rest.now in (
      refl,
      prev_other c.args.base.now before c.in_ok-number.field-0 c.feed_link.new.self.rest.now c.in_default.not-Archive
          (found_here (feed_link (codes "prev-archive") c.args.base.now) c.new-reader.result.rest.now before _ _
          c.new-reader.ensures c.in_ok-number.ensures),
    )

pub returns : goal.returns
returns c =
    let before = c.args.self.now.rest.now in
    prev_found c.args.base.now before c.in_ok-number.field-0 c.in-Archive.number c.feed_link.new.self.rest.now
    c.in-Archive.is
    (found_here (feed_link (codes "prev-archive") c.args.base.now) c.new-reader.result.rest.now before _ _
    c.new-reader.ensures c.in_ok-number.ensures)
