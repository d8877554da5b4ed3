use Rattle.std.proofs.Common.{◌≡◌, ◌+◌, ℕ, None, Ok, Err, sym, ap, subst, ◌∙◌, rules}
use Rattle.std.specs.Prelude.{IfOk}
use Rattle.atom_values.specs.Entry.{normal}
use Rattle.member_rules.specs.declared.operation.Op.TheVariants.{Add}
use Rattle.member_rules.specs.Fold.{made}
use Rattle.member_rules.specs.Decide.{unless_large}
use Rattle.member_rules.specs.Operation.{KeepsEntry}
use Rattle.member_rules.proofs.DecisionLemmas.{decide-create, next_moment-by, unless_large-and, keeps_entry}
use Rattle.member_rules.proofs.decision.create.Goals as goal

pub returns-clause-decision : goal.returns-clause-decision
returns-clause-decision c = λ created history of.
    let moment = c.in_ok-moment.moment in
    let by = next_moment-by created c.last_moment.result history c.args.now
    (c.last_moment.ensures.last created history of) in
    let entry : c.normal-entry.result ≡ normal c.args.draft (made history + 1) moment None =
    c.normal-entry.ensures ∙ ap (λ (n : ℕ). normal c.args.draft (n + 1) moment None)
    (c.count.ensures.made created history of) in
    c.and.ensures
    ∙ unless_large-and c.args.name.now Add c.normal-entry.result c.refuse_large.result c.refuse_large.ensures.size
    ∙ ap (unless_large c.args.name.now Add) entry
    ∙ sym (decide-create c.args.name.now created history c.args.draft c.args.now (Ok moment)
    (sym c.in_ok-moment.was ∙ c.next_moment.ensures ∙ by))

pub returns-clause-entry : goal.returns-clause-entry
returns-clause-entry c =
    subst (λ r. IfOk r KeepsEntry) (sym c.and.ensures)
    (keeps_entry c.refuse_large.result (Add c.normal-entry.result) c.refuse_large.ensures.rules)

pub returns-in_err-moment-clause-decision : goal.returns-in_err-moment-clause-decision
returns-in_err-moment-clause-decision c = λ created history of.
    let by = next_moment-by created c.last_moment.result history c.args.now
    (c.last_moment.ensures.last created history of) in
    let back : c.from_residual.result ≡ Err c.in_err-moment.field-0.0 = search rules in
    back ∙ sym (decide-create c.args.name.now created history c.args.draft c.args.now (Err c.in_err-moment.field-0.0)
    (sym c.in_err-moment.was ∙ c.next_moment.ensures ∙ by))
