use Rattle.std.proofs.Common.{sym, ◌∙◌}
use Rattle.xml_tokens.proofs.PartLemmas.{err_reads}
use Rattle.xml_tokens.proofs.ReferencePartLemmas.{a_reference, and_fails, and_reads, hash_reads}
use Rattle.xml_tokens.proofs.ReferencePartLemmas.{hex_reads, ten_reads, named_reads, byte_fails}
use Rattle.xml_tokens.proofs.cursor.Cursor.reference.Goals as goal

pub returns-in_err-literal : goal.returns-in_err-literal
returns-in_err-literal c =
    let text = c.args.self.now.rest.now in
    let end = c.literal.new.self.rest.now in
    let e = c.in_err-literal.field-0.0 in
    err_reads a_reference text end e c.from_residual.result c.from_residual.ensures.1
    (and_fails text e end c.in_err-literal.ensures)

pub returns-in_err-literal-2 : goal.returns-in_err-literal-2
returns-in_err-literal-2 c =
    let text = c.args.self.now.rest.now in
    let after = c.literal.new.self.rest.now in
    let end = c.literal-then-at.new.self.rest.now in
    let e = c.in_err-literal-2.field-0.0 in
    err_reads a_reference text end e c.from_residual-in_err-literal-2.result c.from_residual-in_err-literal-2.ensures.1
    (byte_fails a_reference 35 after text (sym c.at.ensures ∙ c.if-at.true) e end c.in_err-literal-2.ensures)

pub returns-in_err-literal-3 : goal.returns-in_err-literal-3
returns-in_err-literal-3 c =
    let text = c.args.self.now.rest.now in
    let after = c.literal-then-at.new.self.rest.now in
    let end = c.literal-then-at-2.new.self.rest.now in
    let e = c.in_err-literal-3.field-0.0 in
    err_reads a_reference text end e c.from_residual-in_err-literal-3.result c.from_residual-in_err-literal-3.ensures.1
    (byte_fails a_reference 120 after text (sym c.at-then-at.ensures ∙ c.if-at-2.true) e end
    c.in_err-literal-3.ensures)

pub returns-then-at-2 : goal.returns-then-at-2
returns-then-at-2 c =
    let end = c.number.new.self.rest.now in
    let r = c.number.result in
    and_reads c.args.self.now.rest.now c.literal.new.self.rest.now c.in_ok-literal.ensures r end
    (hash_reads c.literal.new.self.rest.now c.literal-then-at.new.self.rest.now c.in_ok-literal-2.ensures r end
    (hex_reads c.literal-then-at.new.self.rest.now c.literal-then-at-2.new.self.rest.now c.in_ok-literal-3.ensures r end
    c.number.ensures))

pub returns-then-at : goal.returns-then-at
returns-then-at c =
    let end = c.number-then-at.new.self.rest.now in
    let r = c.number-then-at.result in
    let last = c.literal-then-at.new.self.rest.now in
    and_reads c.args.self.now.rest.now c.literal.new.self.rest.now c.in_ok-literal.ensures r end
    (hash_reads c.literal.new.self.rest.now last c.in_ok-literal-2.ensures r end
    (ten_reads last (sym c.at-then-at.ensures ∙ c.if-at-2.false) r end c.number-then-at.ensures))

pub returns : goal.returns
returns c =
    let end = c.named.new.self.rest.now in
    let after = c.literal.new.self.rest.now in
    and_reads c.args.self.now.rest.now after c.in_ok-literal.ensures c.named.result end
    (named_reads after (sym c.at.ensures ∙ c.if-at.false) c.named.result end c.named.ensures)
