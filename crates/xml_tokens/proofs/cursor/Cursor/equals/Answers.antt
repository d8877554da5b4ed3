use Rattle.std.proofs.Common.{Ok, Err}
use Rattle.xml_tokens.specs.Reading.{equals_sign}
use Rattle.xml_tokens.proofs.PartLemmas.{same_reads, then_reads, joins_fails, err_reads}
use Rattle.xml_tokens.proofs.CursorLemmas.{spaced_sign, spaces_found, spaced_joins, sign_joins, to_equals}
use Rattle.xml_tokens.proofs.CursorLemmas.{from_equals}
use Rattle.xml_tokens.proofs.cursor.Cursor.equals.Goals as goal

pub returns-in_err-literal : goal.returns-in_err-literal
returns-in_err-literal c =
    let text = c.args.self.now.rest.now in
    let middle = c.spaces.new.self.rest.now in
    let end = c.literal.new.self.rest.now in
    let e = c.in_err-literal.field-0.0 in
    err_reads equals_sign text end e c.from_residual.result c.from_residual.ensures.1
    (same_reads equals_sign spaced_sign to_equals from_equals text (Err e) end
    (then_reads spaced_joins text tt middle (spaces_found text c.spaces.result middle c.spaces.ensures) (Err e) end
    (joins_fails sign_joins middle e end end c.in_err-literal.ensures)))

pub returns : goal.returns
returns c =
    let text = c.args.self.now.rest.now in
    let middle = c.spaces.new.self.rest.now in
    let last = c.literal.new.self.rest.now in
    let end = c.spaces-2.new.self.rest.now in
    same_reads equals_sign spaced_sign to_equals from_equals text (Ok tt) end
    (then_reads spaced_joins text tt middle (spaces_found text c.spaces.result middle c.spaces.ensures) (Ok tt) end
    (then_reads sign_joins middle tt last c.in_ok-literal.ensures (Ok tt) end
    (spaces_found last c.spaces-2.result end c.spaces-2.ensures)))
