use Rattle.xml_tokens.proofs.OpenTokenLemmas.{tag_err}
use Rattle.xml_tokens.proofs.cursor.Cursor.tag_token.Goals as goal

pub returns-in_err-tag : goal.returns-in_err-tag
returns-in_err-tag c =
    tag_err c.args.self.now.rest.now c.tag.new.self.rest.now c.in_err-tag.field-0.0 c.from_residual.result
    c.from_residual.ensures.1 c.in_err-tag.ensures
