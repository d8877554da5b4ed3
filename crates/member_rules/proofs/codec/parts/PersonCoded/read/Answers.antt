use Rattle.member_rules.specs.Fields.{text, optional, person}
use Rattle.member_rules.proofs.FieldLemmas.{stopped, then, text_one, pair_absent}
use Rattle.member_rules.proofs.PartLemmas.{option_one, person_begun}
use Rattle.member_rules.proofs.codec.parts.PersonCoded.read.Goals as goal

pub returns-in_err-name : goal.returns-in_err-name
returns-in_err-name c =
    let input = c.args.unread.now.rest.now in
    stopped text _ person _ _ input _ _ c.in_err-name.ensures c.from_residual.ensures.1
    (λ none. (person_begun input).absent (pair_absent _ _ _ none))

pub returns-in_err-uri : goal.returns-in_err-uri
returns-in_err-uri c =
    let input = c.args.unread.now.rest.now in
    stopped (optional text) _ person _ _ input _ _ c.in_err-uri.ensures c.from_residual-in_err-uri.ensures.1
    (λ none. (then text_one (person_begun input) c.in_ok-name.ensures).absent (pair_absent _ _ _ none))

pub returns-in_err-email : goal.returns-in_err-email
returns-in_err-email c =
    let input = c.args.unread.now.rest.now in
    stopped (optional text) _ person _ _ input _ _ c.in_err-email.ensures c.from_residual-in_err-email.ensures.1
    (then option_one (then text_one (person_begun input) c.in_ok-name.ensures) c.in_ok-uri.ensures).absent

pub returns : goal.returns
returns c =
    let input = c.args.unread.now.rest.now in
    (then option_one (then text_one
    (person_begun input) c.in_ok-name.ensures) c.in_ok-uri.ensures).found _ _ c.in_ok-email.ensures
