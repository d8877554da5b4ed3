use Rattle.member_rules.specs.Fields.{kind, text, construct}
use Rattle.member_rules.proofs.FieldLemmas.{stopped, then, kind_one, pair_absent, construct_begun}
use Rattle.member_rules.proofs.codec.values.TextCoded.read.Goals as goal

pub returns-in_err-kind : goal.returns-in_err-kind
returns-in_err-kind c =
    let input = c.args.unread.now.rest.now in
    stopped kind _ construct _ _ input _ _ c.in_err-kind.ensures c.from_residual.ensures.1
    (λ none. (construct_begun input).absent (pair_absent _ _ _ none))

pub returns-in_err-value : goal.returns-in_err-value
returns-in_err-value c =
    let input = c.args.unread.now.rest.now in
    stopped text _ construct _ _ input _ _ c.in_err-value.ensures c.from_residual-in_err-value.ensures.1
    (then kind_one (construct_begun input) c.in_ok-kind.ensures).absent

pub returns : goal.returns
returns c =
    (then kind_one (construct_begun c.args.unread.now.rest.now) c.in_ok-kind.ensures).found _ _ c.in_ok-value.ensures
