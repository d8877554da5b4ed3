use Rattle.std.proofs.Common.{◌≡◌, ℕ, ◌+◌, List, [], ◌∷◌, ◌++◌, length, take, true, sym, ap, ◌∙◌}
use Rattle.std.proofs.Common.{append_assoc, arith}
use Rattle.std.proofs.lemmas.List.{length-drop}
use Rattle.xml_tokens.specs.Characters.{lines, lines_after}
use Rattle.xml_tokens.proofs.BeginLemmas.{to_end}
use Rattle.xml_tokens.proofs.LineLemmas.{cr_cut, no_cr, lines_alone, line_step}
use Rattle.xml_tokens.proofs.value.push_lines.Goals as goal

-- the characters up to a line end, and LF
step : (items all more pushed text front tail : List ℕ) → items ++ lines text ≡ all →
    lines text ≡ front ++ 10 ∷ lines tail →
    more ≡ items ++ front → pushed ≡ more ++ 10 ∷ [] → pushed ++ lines tail ≡ all
step items all more pushed text front tail kept split is_more is_pushed =
    ap (λ xs. xs ++ lines tail) (is_pushed ∙ ap (λ xs. xs ++ 10 ∷ []) is_more)
    ∙ append_assoc (items ++ front) (10 ∷ []) (lines tail) ∙ append_assoc items front (10 ∷ lines tail)
    ∙ ap (λ xs. items ++ xs) (sym split) ∙ kept

pub loop-at-smaller : goal.loop-at-smaller
loop-at-smaller c =
    let text = c.loop-at.rest.now in
    let within = (cr_cut text c.in-Some.at c.in-Some.ensures).0 in
    let shorter = c.behind_line_end-rest.ensures.shorter in
    let end = ap length (to_end text (c.in-Some.at + 1)) in
    omega (arith, length-drop (c.in-Some.at + 1) text)

pub loop-at-preserved : goal.loop-at-preserved
loop-at-preserved c =
    let text = c.loop-at.rest.now in
    let at = c.in-Some.at in
    let behind = c.behind_line_end-rest.ensures.read ∙ ap (lines_after true) (to_end text (at + 1)) in
    step c.loop-at.out.items _ c.extend_from_slice.new.self.items c.push.new.self.items text (take at text)
    c.behind_line_end-rest.result.now c.loop-at.invariant
    (line_step text c.behind_line_end-rest.result.now at (c.in-Some.ensures)
    (sym behind)) c.in_ok-extend_from_slice.ensures.items c.in_ok-push.ensures.items

pub returns : goal.returns
returns c =
    let clean = no_cr c.loop-at.rest.now (sym c.in_default.is ∙ c.first.ensures) in
    c.in_ok-extend_from_slice-2.ensures.items ∙ ap (λ xs. c.loop-at.out.items ++ xs) (sym
    (lines_alone c.loop-at.rest.now clean))
    ∙ c.loop-at.invariant
