use Rattle.std.proofs.Common.{◌≡◌, Ok, Err, sym, ◌∙◌, rules}
use Rattle.member_rules.proofs.DecisionLemmas.{decide-change, next_moment-by}
use Rattle.member_rules.proofs.decision.change.Goals as goal

pub returns-clause-decision : goal.returns-clause-decision
returns-clause-decision c = λ name created history of.
    let by = next_moment-by created c.last_moment.result history c.args.now
    (c.last_moment.ensures.last created history of) in
    sym (decide-change name created history c.args.setting c.args.now (Ok c.in_ok-moment.moment)
    (sym c.in_ok-moment.was ∙ c.next_moment.ensures ∙ by))

pub returns-in_err-moment-clause-decision : goal.returns-in_err-moment-clause-decision
returns-in_err-moment-clause-decision c = λ name created history of.
    let by = next_moment-by created c.last_moment.result history c.args.now
    (c.last_moment.ensures.last created history of) in
    let back : c.from_residual.result ≡ Err c.in_err-moment.field-0.0 = search rules in
    back ∙ sym (decide-change name created history c.args.setting c.args.now (Err c.in_err-moment.field-0.0)
    (sym c.in_err-moment.was ∙ c.next_moment.ensures ∙ by))
