use Rattle.std.proofs.Common.{Err}
use Rattle.xml_tokens.specs.Reading.{a_version}
use Rattle.xml_tokens.proofs.PartLemmas.{then_reads, joins_fails, err_reads}
use Rattle.xml_tokens.proofs.DeclarationLemmas.{version_name, version_equals, version_quote, number_joins}
use Rattle.xml_tokens.proofs.cursor.Cursor.version.Goals as goal

pub returns-in_err-literal : goal.returns-in_err-literal
returns-in_err-literal c =
    let text = c.args.self.now.rest.now in
    let end = c.literal.new.self.rest.now in
    let e = c.in_err-literal.field-0.0 in
    err_reads a_version text end e c.from_residual.result c.from_residual.ensures.1
    (joins_fails version_name text e end end c.in_err-literal.ensures)

pub returns-in_err-equals : goal.returns-in_err-equals
returns-in_err-equals c =
    let text = c.args.self.now.rest.now in
    let named = c.literal.new.self.rest.now in
    let end = c.equals.new.self.rest.now in
    let e = c.in_err-equals.field-0.0 in
    err_reads a_version text end e c.from_residual-in_err-equals.result c.from_residual-in_err-equals.ensures.1
    (then_reads version_name text tt named c.in_ok-literal.ensures (Err e) end
    (joins_fails version_equals named e end end c.in_err-equals.ensures))

pub returns-in_err-quote : goal.returns-in_err-quote
returns-in_err-quote c =
    let text = c.args.self.now.rest.now in
    let named = c.literal.new.self.rest.now in
    let signed = c.equals.new.self.rest.now in
    let end = c.quote.new.self.rest.now in
    let e = c.in_err-quote.field-0.0 in
    err_reads a_version text end e c.from_residual-in_err-quote.result c.from_residual-in_err-quote.ensures.1
    (then_reads version_name text tt named c.in_ok-literal.ensures (Err e) end
    (then_reads version_equals named tt signed c.in_ok-equals.ensures (Err e) end
    (joins_fails version_quote signed e end end c.in_err-quote.ensures)))

pub returns-in_err-literal-2 : goal.returns-in_err-literal-2
returns-in_err-literal-2 c =
    let text = c.args.self.now.rest.now in
    let named = c.literal.new.self.rest.now in
    let signed = c.equals.new.self.rest.now in
    let quoted = c.quote.new.self.rest.now in
    let end = c.literal-2.new.self.rest.now in
    let q = c.in_ok-quote.quote in
    let e = c.in_err-literal-2.field-0.0 in
    err_reads a_version text end e c.from_residual-in_err-literal-2.result c.from_residual-in_err-literal-2.ensures.1
    (then_reads version_name text tt named c.in_ok-literal.ensures (Err e) end
    (then_reads version_equals named tt signed c.in_ok-equals.ensures (Err e) end
    (then_reads version_quote signed q quoted c.in_ok-quote.ensures (Err e) end
    (joins_fails (number_joins q) quoted e end end c.in_err-literal-2.ensures))))

pub returns : goal.returns
returns c =
    let text = c.args.self.now.rest.now in
    let named = c.literal.new.self.rest.now in
    let signed = c.equals.new.self.rest.now in
    let quoted = c.quote.new.self.rest.now in
    let counted = c.literal-2.new.self.rest.now in
    let end = c.literal-3.new.self.rest.now in
    let q = c.in_ok-quote.quote in
    let r = c.literal-3.result in
    then_reads version_name text tt named c.in_ok-literal.ensures r end
    (then_reads version_equals named tt signed c.in_ok-equals.ensures r end
    (then_reads version_quote signed q quoted c.in_ok-quote.ensures r end
    (then_reads (number_joins q) quoted tt counted c.in_ok-literal-2.ensures r end c.literal-3.ensures)))
