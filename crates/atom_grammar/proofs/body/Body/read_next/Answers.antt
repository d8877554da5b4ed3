use Rattle.std.proofs.Common.{sym, ◌∙◌, subst, Err}
use Rattle.atom_grammar.specs.FeedParts.{ReadsPiece, item_behind}
use Rattle.atom_grammar.specs.Parts.{IsFound}
use Rattle.atom_grammar.proofs.ItemListLemmas.{item_stuck, end_there, item_taken, end_taken, pushed_items}
use Rattle.atom_grammar.proofs.body.Body.read_next.Goals as goal

pub returns-in_err-fixed-clause-stuck : goal.returns-in_err-fixed-clause-stuck
returns-in_err-fixed-clause-stuck c =
    end_there c.args.self.now c.args.pieces.now.rest.now c.fixed.new.self.rest.now _ c.from_residual.result
    (sym c.at_end.ensures ∙ c.if-at_end.true) c.in_err-fixed.ensures c.from_residual.ensures.1

pub returns-then-at_end-clause-read : goal.returns-then-at_end-clause-read
returns-then-at_end-clause-read c =
    end_taken c.args.self.now c.args.pieces.now.rest.now c.requires.keeps c.if-self.false _
    c.fixed.new.self.rest.now c.in_ok-fixed.ensures

pub returns-in_err-item-clause-stuck : goal.returns-in_err-item-clause-stuck
returns-in_err-item-clause-stuck c =
    let self = c.args.self.now in
    let input = c.args.pieces.now.rest.now in
    item_stuck self input c.item.new.self.rest.now _ c.from_residual-in_err-item.result c.if-self.false
    (sym c.at_end.ensures ∙ c.if-at_end.false)
    (subst (λ z. ReadsPiece (item_behind self.name z) input (Err c.in_err-item.field-0.0) c.item.new.self.rest.now)
    c.as_slice.ensures.items c.in_err-item.ensures) c.from_residual-in_err-item.ensures.1

pub returns-clause-read : goal.returns-clause-read
returns-clause-read c =
    let self = c.args.self.now in
    let input = c.args.pieces.now.rest.now in
    item_taken self input c.requires.keeps c.if-self.false c.in_ok-item.item c.item.new.self.rest.now c.push.new.self
    (λ full. c.if-len-operations.false (c.len.ensures.count ∙ full ∙ sym c.operations.ensures))
    (subst (λ z. IsFound (item_behind self.name z) input c.in_ok-item.item c.item.new.self.rest.now)
    c.as_slice.ensures.items c.in_ok-item.ensures)
    (pushed_items c.push.result c.is_err.result c.is_err.ensures.value c.if-is_err.false c.push.ensures.ok)
