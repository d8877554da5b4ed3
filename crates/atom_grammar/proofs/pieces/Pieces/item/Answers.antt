use Rattle.std.proofs.Common.{refl, sym, ◌∙◌, true, false}
use Rattle.std.proofs.lemmas.Bool.{false≢true}
use Rattle.atom_grammar.specs.FeedParts.{item_behind}
use Rattle.atom_grammar.specs.Items.{item}
use Rattle.atom_grammar.proofs.PieceLemmas.{found_here, stops_piece}
use Rattle.atom_grammar.proofs.ReadingLemmas.{renamed_found, renamed_absent, renamed_refused}
use Rattle.atom_grammar.proofs.SpanLemmas.{Apart, item_narrowed, among}
use Rattle.atom_grammar.proofs.pieces.Pieces.item.Goals as goal

pub returns-in_err-item : goal.returns-in_err-item
returns-in_err-item c =
    let before = c.args.self.now.rest.now in
    stops_piece (item c.args.name.now) (item_behind c.args.name.now c.args.before.now) c.new-reader.result.rest.now
    before _ c.from_residual.result c.new-reader.ensures c.in_err-item.ensures c.from_residual.ensures.1
    (renamed_absent _ _ _ _ _ (item_narrowed c.args.name.now c.args.before.now) before)

pub returns-then-has_number : goal.returns-then-has_number
returns-then-has_number c =
    let before = c.args.self.now.rest.now in
    let broken : ¬ Apart c.args.before.now c.in_ok-item.item = λ apart.
    false≢true (sym apart
    ∙ sym
    (among c.args.before.now c.in_ok-item.item c.number.result true c.number.ensures.number
    c.if-has_number.ensures)) in (
      refl,
      renamed_refused _ _ _ _ _ (item_narrowed c.args.name.now c.args.before.now) before c.item.new.self.rest.now
          c.in_ok-item.item
          (found_here (item c.args.name.now) c.new-reader.result.rest.now before _ _ c.new-reader.ensures
          c.in_ok-item.ensures) broken,
    )

pub returns : goal.returns
returns c =
    let before = c.args.self.now.rest.now in
    renamed_found _ _ _ _ _ (item_narrowed c.args.name.now c.args.before.now) before c.item.new.self.rest.now
    c.in_ok-item.item
    (found_here (item c.args.name.now) c.new-reader.result.rest.now before _ _ c.new-reader.ensures
    c.in_ok-item.ensures)
    (sym
    (among c.args.before.now c.in_ok-item.item c.number.result false c.number.ensures.number
    c.if-has_number.ensures))
