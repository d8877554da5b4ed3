use Rattle.std.proofs.Common.{ap, ◌∙◌, arith, length}
use Rattle.std.proofs.lemmas.List.{take_rest, length-drop}
use Rattle.atom_grammar.proofs.PlaceLemmas.{one_less, none_left}
use Rattle.atom_grammar.proofs.places.after_pieces.Goals as goal

pub loop-left-preserved : goal.loop-left-preserved
loop-left-preserved c =
    let text = c.args.written.now in
    let at = c.loop-left.at in
    let left = c.loop-left.left in
    let n = c.piece_len-at.result in
    let same = take_rest text at in (
      omega (arith, c.loop-left.invariant.0, c.piece_len-at.ensures.within, ap length same, length-drop at text),
      λ pieces rest cut count e.
          one_less text at left n rest (c.loop-left.invariant.1 pieces rest cut count e)
          (omega (arith, c.loop-left-test.true))
          (λ piece behind is_cut split. c.piece_len-at.ensures.cut piece behind is_cut (same ∙ split)),
    )

pub returns-clause-rest : goal.returns-clause-rest
returns-clause-rest c = λ pieces rest cut count e.
    none_left c.args.written.now c.loop-left.at c.loop-left.left rest (c.loop-left.invariant.1 pieces rest cut count e)
    (omega (arith, c.loop-left-test.false))
