use Rattle.xml_tokens.proofs.OpenTokenLemmas.{end_outside, end_read, end_fails, err_token}
use Rattle.xml_tokens.proofs.cursor.Cursor.end_tag.Goals as goal

pub returns-in_default : goal.returns-in_default
returns-in_default c = λ xml fit begun. end_outside c.args.place c.in_default.not-Inside c.args.self.now.rest.now begun

pub returns-in_err-closing : goal.returns-in_err-closing
returns-in_err-closing c = λ xml fit begun.
    let before = c.args.self.now.rest.now in
    let end = c.closing.new.self.rest.now in
    let e = c.in_err-closing.field-0.0 in
    err_token c.args.place before end e c.from_residual.result c.from_residual.ensures.1
    (end_fails c.args.place c.in-Inside.name c.in-Inside.is before end xml fit begun e c.in_err-closing.ensures)

pub returns : goal.returns
returns c = λ xml fit begun.
    end_read c.args.place c.in-Inside.name c.in-Inside.is c.args.self.now.rest.now c.closing.new.self.rest.now xml fit
    c.in_ok-closing.ensures
