use Rattle.std.proofs.Common.{sym, subst}
use Rattle.std.specs.Prelude.{Ok, Err}
use Rattle.xml_tokens.specs.declared.cursor.Lapse.{Lapse}
use Rattle.xml_tokens.specs.Reading.{ReadsEncoding, behind_encoding, is_utf8}
use Rattle.xml_tokens.proofs.PartLemmas.{then_reads}
use Rattle.xml_tokens.proofs.EncodingLemmas.{any_end, any_found, end_found, end_fails}
use Rattle.xml_tokens.proofs.cursor.Cursor.behind_encoding.Goals as goal

pub returns-in-Ok : goal.returns-in-Ok
returns-in-Ok c =
    let text = c.args.self.now.rest.now in
    let spaced = c.spaces-spaced.new.self.rest.now in
    let end = c.declaration_end.new.self.rest.now in
    end_found (is_utf8 c.args.encoding) text end
    (then_reads any_end text c.spaces-spaced.result spaced
    (any_found text c.spaces-spaced.result spaced c.spaces-spaced.ensures) (Ok tt) end c.in-Ok.ensures)

pub returns-in-Err : goal.returns-in-Err
returns-in-Err c =
    let text = c.args.self.now.rest.now in
    let spaced = c.spaces-spaced.new.self.rest.now in
    let end = c.declaration_end.new.self.rest.now in
    let E : Lapse → Type 0 = λ e. ReadsEncoding (behind_encoding (is_utf8 c.args.encoding)) text (Err e) end in
    subst E (sym c.end_lapse.ensures) (end_fails c.args.encoding text c.in-Err.lapse end
    (then_reads any_end text c.spaces-spaced.result spaced
    (any_found text c.spaces-spaced.result spaced c.spaces-spaced.ensures) (Err c.in-Err.lapse) end c.in-Err.ensures))
