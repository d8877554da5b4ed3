use Rattle.std.proofs.Common.{refl}
use Rattle.member_rules.specs.Fields.{number, bytes_of_text}
use Rattle.member_rules.proofs.FieldLemmas.{stopped, text_absent, text_cut, text_found}
use Rattle.member_rules.proofs.codec.unread.Unread.text.Goals as goal

pub returns-in_err-length : goal.returns-in_err-length
returns-in_err-length c =
    stopped number _ bytes_of_text _ _ c.args.self.now.rest.now _ _ c.in_err-length.ensures
    c.from_residual.ensures.1 (text_absent c.args.self.now.rest.now)

pub returns-in_default : goal.returns-in_default
returns-in_default c =
    (refl, text_cut c.args.self.now.rest.now _ _ c.in_ok-length.ensures c.in_default.ensures.cases)

pub returns : goal.returns
returns c =
    let cases = c.in-Some.ensures.cases in
    text_found c.args.self.now.rest.now _ _ _ _ c.in_ok-length.ensures cases.1 cases.2 cases.3
