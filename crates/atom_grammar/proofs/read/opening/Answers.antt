-- Each piece up to the document's own address is read, or refused where it begins.
use Rattle.std.proofs.Common.{rules, refl}
use Rattle.atom_writer.specs.Pieces.{declaration_piece, open_piece}
use Rattle.atom_grammar.proofs.OpeningLemmas.{stop1, stop2, stop3, stop4, stop5, stop6, stop7, up2, up3, up4, up5, up6, is_text, is_moment, whole_opening}
use Rattle.atom_grammar.proofs.read.opening.Goals as goal

pub returns-in_err-fixed : goal.returns-in_err-fixed
unfolding declaration_piece
returns-in_err-fixed c =
    stop1 c.args.pieces.now.rest.now c.fixed.new.self.rest.now _ c.from_residual.result c.in_err-fixed.ensures
    c.from_residual.ensures.1

pub returns-in_err-fixed-2 : goal.returns-in_err-fixed-2
unfolding declaration_piece open_piece
returns-in_err-fixed-2 c =
    stop2 c.args.pieces.now.rest.now c.fixed.new.self.rest.now c.fixed-2.new.self.rest.now _
    c.from_residual-in_err-fixed-2.result c.in_ok-fixed.ensures c.in_err-fixed-2.ensures
    c.from_residual-in_err-fixed-2.ensures.1

pub returns-in_err-id : goal.returns-in_err-id
unfolding declaration_piece open_piece
returns-in_err-id c =
    let input = c.args.pieces.now.rest.now in
    stop3 input c.fixed-2.new.self.rest.now c.feed_id.new.self.rest.now _ c.from_residual-in_err-id.result
    (up2 input c.fixed.new.self.rest.now c.fixed-2.new.self.rest.now c.in_ok-fixed.ensures c.in_ok-fixed-2.ensures)
    c.in_err-id.ensures c.from_residual-in_err-id.ensures.1

pub text-requires : goal.text-requires
text-requires c = refl

pub text-requires-2 : goal.text-requires-2
text-requires-2 c = refl

pub returns-in_err-title : goal.returns-in_err-title
unfolding declaration_piece open_piece
returns-in_err-title c =
    let input = c.args.pieces.now.rest.now in
    let e2 =
    up2 input c.fixed.new.self.rest.now c.fixed-2.new.self.rest.now c.in_ok-fixed.ensures c.in_ok-fixed-2.ensures
    in
    let e3 = up3 input c.fixed-2.new.self.rest.now c.feed_id.new.self.rest.now c.in_ok-id.id e2 c.in_ok-id.ensures in
    stop4 input c.feed_id.new.self.rest.now c.text.new.self.rest.now c.in_ok-id.id _
    c.from_residual-in_err-title.result c.in_ok-id.ensures.lawful e3
    c.in_err-title.ensures c.from_residual-in_err-title.ensures.1

pub returns-in_err-updated : goal.returns-in_err-updated
unfolding declaration_piece open_piece
returns-in_err-updated c =
    let input = c.args.pieces.now.rest.now in
    let e2 =
    up2 input c.fixed.new.self.rest.now c.fixed-2.new.self.rest.now c.in_ok-fixed.ensures c.in_ok-fixed-2.ensures
    in
    let e3 = up3 input c.fixed-2.new.self.rest.now c.feed_id.new.self.rest.now c.in_ok-id.id e2 c.in_ok-id.ensures in
    let e4 =
    up4 input c.feed_id.new.self.rest.now c.text.new.self.rest.now c.in_ok-id.id c.in_ok-title.title e3
    c.in_ok-title.ensures in
    stop5 input c.text.new.self.rest.now c.updated.new.self.rest.now c.in_ok-id.id c.in_ok-title.title _
    c.from_residual-in_err-updated.result c.in_ok-id.ensures.lawful
    (is_text _ _ c.feed_id.new.self.rest.now c.in_ok-title.title c.text.new.self.rest.now c.in_ok-title.ensures) e4
    c.in_err-updated.ensures c.from_residual-in_err-updated.ensures.1

pub returns-in_err-author : goal.returns-in_err-author
unfolding declaration_piece open_piece
returns-in_err-author c =
    let input = c.args.pieces.now.rest.now in
    let e2 =
    up2 input c.fixed.new.self.rest.now c.fixed-2.new.self.rest.now c.in_ok-fixed.ensures c.in_ok-fixed-2.ensures
    in
    let e3 = up3 input c.fixed-2.new.self.rest.now c.feed_id.new.self.rest.now c.in_ok-id.id e2 c.in_ok-id.ensures in
    let e4 =
    up4 input c.feed_id.new.self.rest.now c.text.new.self.rest.now c.in_ok-id.id c.in_ok-title.title e3
    c.in_ok-title.ensures in
    let e5 =
    up5 input c.text.new.self.rest.now c.updated.new.self.rest.now c.in_ok-id.id c.in_ok-title.title
    c.in_ok-updated.updated e4 c.in_ok-updated.ensures in
    stop6 input c.updated.new.self.rest.now c.text-2.new.self.rest.now c.in_ok-id.id c.in_ok-title.title
    c.in_ok-updated.updated _ c.from_residual-in_err-author.result c.in_ok-id.ensures.lawful
    (is_text _ _ c.feed_id.new.self.rest.now c.in_ok-title.title c.text.new.self.rest.now c.in_ok-title.ensures)
    (is_moment c.text.new.self.rest.now c.in_ok-updated.updated c.updated.new.self.rest.now c.in_ok-updated.ensures) e5
    c.in_err-author.ensures c.from_residual-in_err-author.ensures.1

pub returns-in_err-base : goal.returns-in_err-base
unfolding declaration_piece open_piece
returns-in_err-base c =
    let input = c.args.pieces.now.rest.now in
    let e2 =
    up2 input c.fixed.new.self.rest.now c.fixed-2.new.self.rest.now c.in_ok-fixed.ensures c.in_ok-fixed-2.ensures
    in
    let e3 = up3 input c.fixed-2.new.self.rest.now c.feed_id.new.self.rest.now c.in_ok-id.id e2 c.in_ok-id.ensures in
    let e4 =
    up4 input c.feed_id.new.self.rest.now c.text.new.self.rest.now c.in_ok-id.id c.in_ok-title.title e3
    c.in_ok-title.ensures in
    let e5 =
    up5 input c.text.new.self.rest.now c.updated.new.self.rest.now c.in_ok-id.id c.in_ok-title.title
    c.in_ok-updated.updated e4 c.in_ok-updated.ensures in
    let e6 =
    up6 input c.updated.new.self.rest.now c.text-2.new.self.rest.now c.in_ok-id.id c.in_ok-title.title
    c.in_ok-author.author c.in_ok-updated.updated e5 c.in_ok-author.ensures in
    stop7 input c.text-2.new.self.rest.now c.own.new.self.rest.now c.in_ok-id.id c.in_ok-title.title
    c.in_ok-author.author c.in_ok-updated.updated _ c.from_residual-in_err-base.result c.in_ok-id.ensures.lawful
    (is_text _ _ c.feed_id.new.self.rest.now c.in_ok-title.title c.text.new.self.rest.now c.in_ok-title.ensures)
    (is_text _ _ c.updated.new.self.rest.now c.in_ok-author.author c.text-2.new.self.rest.now c.in_ok-author.ensures)
    (is_moment c.text.new.self.rest.now c.in_ok-updated.updated c.updated.new.self.rest.now c.in_ok-updated.ensures) e6
    c.in_err-base.ensures c.from_residual-in_err-base.ensures.1

pub same-title : goal.same-title
same-title c = search rules

pub same-author : goal.same-author
same-author c = search rules

pub returns : goal.returns
unfolding declaration_piece open_piece
returns c =
    let input = c.args.pieces.now.rest.now in
    let e2 =
    up2 input c.fixed.new.self.rest.now c.fixed-2.new.self.rest.now c.in_ok-fixed.ensures c.in_ok-fixed-2.ensures
    in
    let e3 = up3 input c.fixed-2.new.self.rest.now c.feed_id.new.self.rest.now c.in_ok-id.id e2 c.in_ok-id.ensures in
    let e4 =
    up4 input c.feed_id.new.self.rest.now c.text.new.self.rest.now c.in_ok-id.id c.in_ok-title.title e3
    c.in_ok-title.ensures in
    let e5 =
    up5 input c.text.new.self.rest.now c.updated.new.self.rest.now c.in_ok-id.id c.in_ok-title.title
    c.in_ok-updated.updated e4 c.in_ok-updated.ensures in
    let e6 =
    up6 input c.updated.new.self.rest.now c.text-2.new.self.rest.now c.in_ok-id.id c.in_ok-title.title
    c.in_ok-author.author c.in_ok-updated.updated e5 c.in_ok-author.ensures in
    whole_opening input c.text-2.new.self.rest.now c.own.new.self.rest.now c.in_ok-id.id c.in_ok-title.title
    c.in_ok-author.author c.in_ok-updated.updated c.in_ok-base.field-0 c.in_ok-id.ensures.lawful
    (is_text _ _ c.feed_id.new.self.rest.now c.in_ok-title.title c.text.new.self.rest.now c.in_ok-title.ensures)
    (is_text _ _ c.updated.new.self.rest.now c.in_ok-author.author c.text-2.new.self.rest.now c.in_ok-author.ensures)
    (is_moment c.text.new.self.rest.now c.in_ok-updated.updated c.updated.new.self.rest.now c.in_ok-updated.ensures)
    e6 c.in_ok-base.ensures
