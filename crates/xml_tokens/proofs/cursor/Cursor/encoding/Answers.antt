use Rattle.std.proofs.Common.{Err}
use Rattle.xml_tokens.specs.Reading.{an_encoding}
use Rattle.xml_tokens.proofs.EncodingReadLemmas.{then_encoding, fails_encoding, err_encoding}
use Rattle.xml_tokens.proofs.EncodingLemmas.{encoding_word, encoding_equals, encoding_quote, word_goes, equals_goes}
use Rattle.xml_tokens.proofs.EncodingLemmas.{quote_goes}
use Rattle.xml_tokens.proofs.cursor.Cursor.encoding.Goals as goal

pub returns-in_err-literal : goal.returns-in_err-literal
returns-in_err-literal c =
    let text = c.args.self.now.rest.now in
    let end = c.literal.new.self.rest.now in
    let e = c.in_err-literal.field-0.0 in
    err_encoding an_encoding text end e c.from_residual.result c.from_residual.ensures.1
    (fails_encoding encoding_word word_goes text e end end c.in_err-literal.ensures)

pub returns-in_err-equals : goal.returns-in_err-equals
returns-in_err-equals c =
    let text = c.args.self.now.rest.now in
    let named = c.literal.new.self.rest.now in
    let end = c.equals.new.self.rest.now in
    let e = c.in_err-equals.field-0.0 in
    err_encoding an_encoding text end e c.from_residual-in_err-equals.result c.from_residual-in_err-equals.ensures.1
    (then_encoding encoding_word word_goes text tt named c.in_ok-literal.ensures (Err e) end
    (fails_encoding encoding_equals equals_goes named e end end c.in_err-equals.ensures))

pub returns-in_err-quote : goal.returns-in_err-quote
returns-in_err-quote c =
    let text = c.args.self.now.rest.now in
    let named = c.literal.new.self.rest.now in
    let signed = c.equals.new.self.rest.now in
    let end = c.quote.new.self.rest.now in
    let e = c.in_err-quote.field-0.0 in
    err_encoding an_encoding text end e c.from_residual-in_err-quote.result c.from_residual-in_err-quote.ensures.1
    (then_encoding encoding_word word_goes text tt named c.in_ok-literal.ensures (Err e) end
    (then_encoding encoding_equals equals_goes named tt signed c.in_ok-equals.ensures (Err e) end
    (fails_encoding encoding_quote quote_goes signed e end end c.in_err-quote.ensures)))

pub returns : goal.returns
returns c =
    let text = c.args.self.now.rest.now in
    let named = c.literal.new.self.rest.now in
    let signed = c.equals.new.self.rest.now in
    let quoted = c.quote.new.self.rest.now in
    let end = c.encoding_name.new.self.rest.now in
    let r = c.encoding_name.result in
    then_encoding encoding_word word_goes text tt named c.in_ok-literal.ensures r end
    (then_encoding encoding_equals equals_goes named tt signed c.in_ok-equals.ensures r end
    (then_encoding encoding_quote quote_goes signed c.in_ok-quote.quote quoted c.in_ok-quote.ensures r end
    c.encoding_name.ensures))
