use Rattle.member_rules.specs.Fields.{text, optional, category}
use Rattle.member_rules.proofs.FieldLemmas.{stopped, then, text_one, pair_absent}
use Rattle.member_rules.proofs.PartLemmas.{option_one, category_begun}
use Rattle.member_rules.proofs.codec.parts.CategoryCoded.read.Goals as goal

pub returns-in_err-term : goal.returns-in_err-term
returns-in_err-term c =
    let input = c.args.unread.now.rest.now in
    stopped text _ category _ _ input _ _ c.in_err-term.ensures c.from_residual.ensures.1
    (λ none. (category_begun input).absent (pair_absent _ _ _ none))

pub returns-in_err-scheme : goal.returns-in_err-scheme
returns-in_err-scheme c =
    let input = c.args.unread.now.rest.now in
    stopped (optional text) _ category _ _ input _ _ c.in_err-scheme.ensures c.from_residual-in_err-scheme.ensures.1
    (λ none. (then text_one (category_begun input) c.in_ok-term.ensures).absent (pair_absent _ _ _ none))

pub returns-in_err-label : goal.returns-in_err-label
returns-in_err-label c =
    let input = c.args.unread.now.rest.now in
    stopped (optional text) _ category _ _ input _ _ c.in_err-label.ensures c.from_residual-in_err-label.ensures.1
    (then option_one (then text_one (category_begun input) c.in_ok-term.ensures) c.in_ok-scheme.ensures).absent

pub returns : goal.returns
returns c =
    let input = c.args.unread.now.rest.now in
    (then option_one (then text_one
    (category_begun input) c.in_ok-term.ensures) c.in_ok-scheme.ensures).found _ _ c.in_ok-label.ensures
