use Rattle.std.proofs.Common.{◌≡◌, ◌+◌, ◌≤◌, arith, true, refl, ap, length, take, drop, subst}
use Rattle.std.proofs.lemmas.Bool.{false≢true}
use Rattle.std.proofs.lemmas.List.{take_rest, take-append-drop, length-drop}
use Rattle.atom_values.specs.Ascii.{lf}
use Rattle.atom_grammar.specs.Cutting.{IsLine, IsUnfinished}
use Rattle.atom_grammar.specs.Parts.{lacks}
use Rattle.atom_grammar.proofs.CuttingLemmas.{unfinished_rest, cut_unfinished}
use Rattle.atom_grammar.proofs.LineLemmas.{no_line_end, is_line}
use Rattle.atom_grammar.proofs.PlaceLemmas.{goes_on, ends_here}
use Rattle.atom_grammar.proofs.cutting.piece_len.Goals as goal

pub returns-then-is_whole-clause-cut : goal.returns-then-is_whole-clause-cut
returns-then-is_whole-clause-cut c = λ piece rest cut e.
    let text = c.args.text.now in
    let len = c.loop-at.len in
    let at = c.in-Some.at in
    let same = take_rest text len in
    let within : len + (at + 1) ≤ length text =
    omega (arith, c.loop-at.invariant.0, c.in-Some.ensures.0.high, ap length same, length-drop len text) in
    ends_here text len (at + 1) c.loop-at.invariant.1
    (subst (λ z. IsLine (take (at + 1) z)) same (is_line _ at c.in-Some.ensures)) (c.if-is_whole.ensures.0 refl) within
    piece rest cut e

pub loop-at-preserved : goal.loop-at-preserved
loop-at-preserved c =
    let text = c.args.text.now in
    let len = c.loop-at.len in
    let at = c.in-Some.at in
    let same = take_rest text len in (
      omega (arith, c.loop-at.invariant.0, c.in-Some.ensures.0.high, ap length same, length-drop len text),
      goes_on text len (at + 1) c.loop-at.invariant.1
          (subst (λ z. IsLine (take (at + 1) z)) same (is_line _ at c.in-Some.ensures))
          (λ whole. false≢true (c.if-is_whole.ensures.1 whole)),
    )

pub returns-clause-cut : goal.returns-clause-cut
returns-clause-cut c = λ piece rest cut e.
    let text = c.args.text.now in
    let len = c.loop-at.len in
    let none : lacks lf (drop len text) ≡ true =
    subst (λ z. lacks lf z ≡ true) (take_rest text len) (no_line_end _ c.in_default.ensures) in
    absurd
    (cut_unfinished piece rest text cut
    (subst IsUnfinished (take-append-drop len text)
    (unfinished_rest (take len text) (drop len text) c.loop-at.invariant.1 none)) e)
