use Rattle.std.proofs.Common.{Err}
use Rattle.xml_tokens.specs.Reading.{a_comment}
use Rattle.xml_tokens.proofs.PartLemmas.{then_reads, joins_fails, err_reads, same_reads}
use Rattle.xml_tokens.proofs.TokenLemmas.{comment_parts, comment_joins, comment_end_joins, to_comment, from_comment}
use Rattle.xml_tokens.proofs.cursor.Cursor.comment.Goals as goal

pub returns-in_err-literal : goal.returns-in_err-literal
returns-in_err-literal c =
    let text = c.args.self.now.rest.now in
    let end = c.literal.new.self.rest.now in
    let e = c.in_err-literal.field-0.0 in
    err_reads a_comment text end e c.from_residual.result c.from_residual.ensures.1
    (same_reads a_comment comment_parts to_comment from_comment text (Err e) end
    (joins_fails comment_joins text e end end c.in_err-literal.ensures))

pub returns-in_err-up_to : goal.returns-in_err-up_to
returns-in_err-up_to c =
    let text = c.args.self.now.rest.now in
    let begun = c.literal.new.self.rest.now in
    let end = c.up_to.new.self.rest.now in
    let e = c.in_err-up_to.field-0.0 in
    err_reads a_comment text end e c.from_residual-in_err-up_to.result c.from_residual-in_err-up_to.ensures.1
    (same_reads a_comment comment_parts to_comment from_comment text (Err e) end
    (then_reads comment_joins text tt begun c.in_ok-literal.ensures (Err e) end
    (joins_fails comment_end_joins begun e end end c.in_err-up_to.ensures)))

pub returns : goal.returns
returns c =
    let text = c.args.self.now.rest.now in
    let begun = c.literal.new.self.rest.now in
    let said = c.up_to.new.self.rest.now in
    let end = c.literal-2.new.self.rest.now in
    let r = c.literal-2.result in
    same_reads a_comment comment_parts to_comment from_comment text r end
    (then_reads comment_joins text tt begun c.in_ok-literal.ensures r end
    (then_reads comment_end_joins begun c.in_ok-up_to.field-0.now said c.in_ok-up_to.ensures r end c.literal-2.ensures))
