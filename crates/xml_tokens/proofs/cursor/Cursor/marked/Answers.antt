use Rattle.std.proofs.Common.{◌≡◌, false, sym, ◌∙◌}
use Rattle.std.specs.Prelude.{codes}
use Rattle.std.proofs.lemmas.Bool.{both_ways}
use Rattle.xml_tokens.specs.Characters.{begins}
use Rattle.xml_tokens.specs.Reading.{IsInContent}
use Rattle.xml_tokens.proofs.OpenTokenLemmas.{section_read, section_fails, comment_read, comment_fails, err_token}
use Rattle.xml_tokens.proofs.cursor.Cursor.marked.Goals as goal
use Rattle.xml_tokens.proofs.cursor.Cursor.marked.Goals.{else-is_content-via-then-is_content+else-at}
use Rattle.xml_tokens.proofs.cursor.Cursor.marked.Goals.{else-is_content-via-else-is_content}

pub returns-in_err-section : goal.returns-in_err-section
returns-in_err-section c = λ xml begun.
    let before = c.args.self.now.rest.now in
    let end = c.section.new.self.rest.now in
    let e = c.in_err-section.field-0.0 in
    err_token c.args.place before end e c.from_residual.result c.from_residual.ensures.1
    (section_fails c.args.place (c.is_content.ensures.some c.if-is_content.true) before end xml
    (sym c.at.ensures ∙ c.if-at.true) e c.in_err-section.ensures)

pub returns-then-at : goal.returns-then-at
returns-then-at c = λ xml begun.
    section_read c.args.place (c.is_content.ensures.some c.if-is_content.true) c.args.self.now.rest.now
    c.section.new.self.rest.now xml c.in_ok-section.field-0 c.in_ok-section.ensures

pub returns-in_err-comment : goal.returns-in_err-comment
returns-in_err-comment c = λ xml begun.
    let before = c.args.self.now.rest.now in
    let end = c.comment.new.self.rest.now in
    let e = c.in_err-comment.field-0.0 in
    let none : IsInContent c.args.place → begins (codes "<![") before ≡ false =
    λ inside. elim c.else-is_content.branch [
      | else-is_content-via-then-is_content+else-at w ↦ sym w.at.ensures ∙ w.if-at.false
      | else-is_content-via-else-is_content w ↦
          absurd (both_ways c.is_content.result w.if-is_content.false (c.is_content.ensures.none inside))
    ] in
    err_token c.args.place before end e c.from_residual-in_err-comment.result c.from_residual-in_err-comment.ensures.1
    (comment_fails c.args.place before end xml begun none e c.in_err-comment.ensures)

pub returns : goal.returns
returns c = λ xml begun.
    comment_read c.args.place c.args.self.now.rest.now c.comment.new.self.rest.now xml c.in_ok-comment.ensures
