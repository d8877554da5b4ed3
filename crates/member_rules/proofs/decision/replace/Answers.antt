use Rattle.std.proofs.Common.{◌≡◌, ℕ, List, Option, Some, Ok, Err, sym, ap, subst, ◌∙◌, rules}
use Rattle.std.specs.Prelude.{IfOk}
use Rattle.atom_values.specs.Entry.{DraftValue, normal}
use Rattle.member_rules.specs.declared.operation.Op.TheVariants.{Change}
use Rattle.member_rules.specs.Decide.{moments, unless_large}
use Rattle.member_rules.specs.Operation.{KeepsEntry}
use Rattle.member_rules.proofs.DecisionLemmas.{decide-moments, unless_large-and, keeps_entry}
use Rattle.member_rules.proofs.decision.replace.Goals as goal

pub returns-clause-decision : goal.returns-clause-decision
unfolding normal
returns-clause-decision c = λ created history of.
    let stored = c.in_ok-stored.stored in
    let moment = c.in_ok-stored.moment in
    let number = c.args.number in
    let name = c.args.name.now in
    let own = sym c.in_ok-stored.was ∙ c.moments.ensures.moments created history of
    ∙ ap (λ (id : Option (List ℕ)). moments name created history number id c.args.now)
    (c.take.ensures.value ∙ ap (λ (d : DraftValue). d.id) c.draft.view_is) in
    let entry : c.normal-entry.result ≡ normal c.args.draft number moment (Some stored) =
    c.normal-entry.ensures ∙ ap (λ (d : DraftValue). normal d number moment (Some stored)) c.draft.view_is in
    c.and.ensures
    ∙ unless_large-and name Change c.normal-entry.result c.refuse_large.result c.refuse_large.ensures.size
    ∙ ap (unless_large name Change) entry
    ∙ sym (decide-moments name created history number c.args.draft c.args.now (Ok (stored, moment)) own)

pub returns-clause-entry : goal.returns-clause-entry
returns-clause-entry c =
    subst (λ r. IfOk r KeepsEntry) (sym c.and.ensures)
    (keeps_entry c.refuse_large.result (Change c.normal-entry.result) c.refuse_large.ensures.rules)

pub returns-in_err-stored-clause-decision : goal.returns-in_err-stored-clause-decision
returns-in_err-stored-clause-decision c = λ created history of.
    let number = c.args.number in
    let name = c.args.name.now in
    let own = sym c.in_err-stored.was ∙ c.moments.ensures.moments created history of
    ∙ ap (λ (id : Option (List ℕ)). moments name created history number id c.args.now)
    (c.take.ensures.value ∙ ap (λ (d : DraftValue). d.id) c.draft.view_is) in
    let back : c.from_residual.result ≡ Err c.in_err-stored.field-0.0 = search rules in
    back ∙ sym (decide-moments name created history number c.args.draft c.args.now (Err c.in_err-stored.field-0.0) own)
