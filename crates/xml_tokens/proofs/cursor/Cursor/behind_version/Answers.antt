use Rattle.std.proofs.Common.{◌≡◌, true, false, sym, ◌∙◌}
use Rattle.std.specs.Prelude.{Err, codes}
use Rattle.std.proofs.lemmas.Bool.{both_ways}
use Rattle.xml_tokens.specs.Characters.{begins}
use Rattle.xml_tokens.specs.Reading.{behind_version, is_utf8}
use Rattle.xml_tokens.proofs.EncodingReadLemmas.{err_encoding}
use Rattle.xml_tokens.proofs.EncodingLemmas.{version_encoding, version_end, encoding_then, encoding_fails}
use Rattle.xml_tokens.proofs.cursor.Cursor.behind_version.Goals as goal
use Rattle.xml_tokens.proofs.cursor.Cursor.behind_version.Goals.{else-spaced-via-then-spaced+else-at}
use Rattle.xml_tokens.proofs.cursor.Cursor.behind_version.Goals.{else-spaced-via-else-spaced}

pub returns-in_err-encoding : goal.returns-in_err-encoding
returns-in_err-encoding c =
    let text = c.args.self.now.rest.now in
    let end = c.encoding.new.self.rest.now in
    let e = c.in_err-encoding.field-0.0 in
    err_encoding (behind_version c.args.spaced) text end e c.from_residual.result c.from_residual.ensures.1
    (version_encoding c.args.spaced text c.if-spaced.true (sym c.at.ensures ∙ c.if-at.true) (Err e) end
    (encoding_fails text e end end c.in_err-encoding.ensures))

pub returns-then-at : goal.returns-then-at
returns-then-at c =
    let text = c.args.self.now.rest.now in
    let named = c.encoding.new.self.rest.now in
    let end = c.behind_encoding.new.self.rest.now in
    let k = c.in_ok-encoding.encoding in
    version_encoding c.args.spaced text c.if-spaced.true (sym c.at.ensures ∙ c.if-at.true) c.behind_encoding.result end
    (encoding_then text (is_utf8 k) named c.in_ok-encoding.ensures c.behind_encoding.result end
    c.behind_encoding.ensures)

pub returns-in_err-declaration_end : goal.returns-in_err-declaration_end
returns-in_err-declaration_end c =
    let text = c.args.self.now.rest.now in
    let end = c.declaration_end.new.self.rest.now in
    let e = c.in_err-declaration_end.field-0.0 in
    let none : c.args.spaced ≡ true → begins (codes "e") text ≡ false = λ is. elim c.else-spaced.branch [
      | else-spaced-via-then-spaced+else-at w ↦ sym w.at.ensures ∙ w.if-at.false
      | else-spaced-via-else-spaced w ↦ absurd (both_ways c.args.spaced w.if-spaced.false is)
    ] in
    err_encoding (behind_version c.args.spaced) text end e c.from_residual-in_err-declaration_end.result
    c.from_residual-in_err-declaration_end.ensures.1
    (version_end c.args.spaced text none e end c.in_err-declaration_end.ensures)
