use Rattle.std.proofs.Common.{Some, ap, sym, ◌∙◌}
use Rattle.tool_words.proofs.LineLemmas.{title_of-long, title_of-no_text, title_of-text, other_fault, refused_text}
use Rattle.tool_words.proofs.line.title_of.Goals as goal

pub returns-then-title-gt-LINE_TITLE_LIMIT-clause-bad : goal.returns-then-title-gt-LINE_TITLE_LIMIT-clause-bad
returns-then-title-gt-LINE_TITLE_LIMIT-clause-bad c = λ _.
    title_of-long c.args.title.now c.if-title-gt-LINE_TITLE_LIMIT.true

pub returns-in-Ok-clause-found : goal.returns-in-Ok-clause-found
returns-in-Ok-clause-found c =
    title_of-text c.args.title.now c.if-title-gt-LINE_TITLE_LIMIT.false c.in-Ok.ensures.taken
    ∙ ap Some (sym c.in-Ok.ensures.text)

pub returns-in-TooLong-clause-bad : goal.returns-in-TooLong-clause-bad
returns-in-TooLong-clause-bad c = λ _.
    let title = c.args.title.now in
    title_of-no_text title (refused_text title c.in-Err.fault (other_fault c.in-Err.fault c.in-TooLong.is)
    c.if-title-gt-LINE_TITLE_LIMIT.false c.in-Err.ensures.refused)
