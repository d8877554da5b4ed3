use Rattle.std.proofs.Common.{◌≡◌, ◌≢◌, refl, rules, tests}
use Rattle.atom_grammar.specs.FeedParts.{link_to, feed_link}
use Rattle.atom_grammar.proofs.FeedPartLemmas.{to_found, to_absent, to_other}
use Rattle.atom_grammar.proofs.PieceLemmas.{found_here, stops_piece}
use Rattle.atom_grammar.proofs.pieces.Pieces.link_to.Goals as goal

pub returns-in_err-address : goal.returns-in_err-address
returns-in_err-address c =
    let before = c.args.self.now.rest.now in
    stops_piece (feed_link c.args.rel.now c.args.base.now) (link_to c.args.rel.now c.args.base.now c.args.to)
    c.new-reader.result.rest.now before _ c.from_residual.result c.new-reader.ensures c.in_err-address.ensures
    c.from_residual.ensures.1
    (to_absent c.args.rel.now c.args.base.now before c.args.to c.requires)

pub returns-then-ne : goal.returns-then-ne
returns-then-ne c =
    let before = c.args.self.now.rest.now in
    let differ : c.in_ok-address.address ≢ c.args.to = search (rules, tests) in (
      refl,
      to_other c.args.rel.now c.args.base.now before c.in_ok-address.address c.args.to c.feed_link.new.self.rest.now
          c.requires differ
          (found_here (feed_link c.args.rel.now c.args.base.now) c.new-reader.result.rest.now before _ _
          c.new-reader.ensures c.in_ok-address.ensures),
    )

pub returns : goal.returns
returns c =
    let before = c.args.self.now.rest.now in
    let same : c.in_ok-address.address ≡ c.args.to = search (rules, tests) in
    to_found c.args.rel.now c.args.base.now before c.in_ok-address.address c.args.to c.feed_link.new.self.rest.now same
    (found_here (feed_link c.args.rel.now c.args.base.now) c.new-reader.result.rest.now before _ _
    c.new-reader.ensures c.in_ok-address.ensures)
