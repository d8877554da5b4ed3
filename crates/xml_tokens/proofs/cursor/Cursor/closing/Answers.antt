use Rattle.std.proofs.Common.{Err}
use Rattle.xml_tokens.specs.Reading.{written_end_tag}
use Rattle.xml_tokens.proofs.PartLemmas.{then_reads, joins_fails, err_reads, same_reads}
use Rattle.xml_tokens.proofs.CursorLemmas.{spaces_found}
use Rattle.xml_tokens.proofs.TokenLemmas.{closing_parts, closing_joins, closing_name_joins, closing_end_joins}
use Rattle.xml_tokens.proofs.TokenLemmas.{to_closing, from_closing}
use Rattle.xml_tokens.proofs.cursor.Cursor.closing.Goals as goal

pub returns-in_err-literal : goal.returns-in_err-literal
returns-in_err-literal c =
    let text = c.args.self.now.rest.now in
    let name = c.args.name.now in
    let end = c.literal.new.self.rest.now in
    let e = c.in_err-literal.field-0.0 in
    err_reads (written_end_tag name) text end e c.from_residual.result c.from_residual.ensures.1
    (same_reads (written_end_tag name) (closing_parts name) (to_closing name) (from_closing name) text (Err e) end
    (joins_fails (closing_joins name) text e end end c.in_err-literal.ensures))

pub returns-in_err-literal-2 : goal.returns-in_err-literal-2
returns-in_err-literal-2 c =
    let text = c.args.self.now.rest.now in
    let name = c.args.name.now in
    let begun = c.literal.new.self.rest.now in
    let end = c.literal-2.new.self.rest.now in
    let e = c.in_err-literal-2.field-0.0 in
    err_reads (written_end_tag name) text end e c.from_residual-in_err-literal-2.result
    c.from_residual-in_err-literal-2.ensures.1
    (same_reads (written_end_tag name) (closing_parts name) (to_closing name) (from_closing name) text (Err e) end
    (then_reads (closing_joins name) text tt begun c.in_ok-literal.ensures (Err e) end
    (joins_fails (closing_name_joins name) begun e end end c.in_err-literal-2.ensures)))

pub returns : goal.returns
returns c =
    let text = c.args.self.now.rest.now in
    let name = c.args.name.now in
    let begun = c.literal.new.self.rest.now in
    let named = c.literal-2.new.self.rest.now in
    let spaced = c.spaces.new.self.rest.now in
    let end = c.literal-3.new.self.rest.now in
    let r = c.literal-3.result in
    same_reads (written_end_tag name) (closing_parts name) (to_closing name) (from_closing name) text r end
    (then_reads (closing_joins name) text tt begun c.in_ok-literal.ensures r end
    (then_reads (closing_name_joins name) begun tt named c.in_ok-literal-2.ensures r end
    (then_reads closing_end_joins named tt spaced (spaces_found named c.spaces.result spaced c.spaces.ensures) r end
    c.literal-3.ensures)))
