use Rattle.std.proofs.Common.{◌++◌, sym, ap, ◌∙◌, arith, drop}
use Rattle.std.proofs.lemmas.List.{take-append-drop}
use Rattle.xml_tokens.proofs.SuspectLemmas.{clean_start, clean_more}
use Rattle.xml_tokens.proofs.characters.without_clean_blocks.Goals as goal

pub loop-block-init : goal.loop-block-init
loop-block-init c = (clean_start c.args.text.now, omega arith)

pub loop-block-smaller : goal.loop-block-smaller
loop-block-smaller c = let sizes = c.in-Some.ensures.cases.4 in omega arith

pub loop-block-preserved : goal.loop-block-preserved
loop-block-preserved c =
    let rest = c.loop-block.rest.now in
    let cut = c.in-Some.ensures.cases in
    let sizes = cut.4 in
    let within = c.loop-block.invariant.1 in (
      clean_more c.args.text.now rest c.in-Some.block.now c.in-Some.tail.now c.loop-block.invariant.0
          (sym (take-append-drop 64 rest) ∙ ap (λ xs. xs ++ drop 64 rest) (sym cut.1)
          ∙ ap (λ xs. c.in-Some.block.now ++ xs) (sym cut.2)) (sym c.has_suspect.ensures ∙ c.if-has_suspect.false),
      omega arith,
    )
