use Rattle.std.proofs.Common.{arith}
use Rattle.atom_writer.specs.Pieces.{link_piece}
use Rattle.atom_grammar.specs.FeedParts.{prev_piece}
use Rattle.atom_grammar.proofs.ArchiveLinkLemmas.{prev_link_read, prev_link_none}
use Rattle.atom_grammar.proofs.read.archive_prev.Goals as goal

pub returns-then-prev-eq0 : goal.returns-then-prev-eq0
returns-then-prev-eq0 c = prev_link_none c.args.name.now c.args.prev c.args.pieces.now.rest.now (omega arith)

pub link_to-requires : goal.link_to-requires
link_to-requires c = (omega arith, c.ranges.prev.fits)

pub returns : goal.returns
unfolding prev_piece link_piece
returns c =
    prev_link_read c.args.name.now c.args.prev c.args.pieces.now.rest.now _ c.link_to.result (omega arith)
    c.link_to.ensures
