use Rattle.std.proofs.Common.{◌≡◌, ℤ, Ok, Err, sym, ap, ◌∙◌, refl, rules}
use Rattle.member_rules.specs.declared.operation.Op.TheVariants.{Remove}
use Rattle.member_rules.specs.History.{later_of}
use Rattle.member_rules.specs.Decide.{next_moment, live_entry}
use Rattle.member_rules.proofs.DecisionLemmas.{decide-delete, next_moment-by, ok_at, ord_max-later}
use Rattle.member_rules.proofs.decision.delete.Goals as goal

pub returns-clause-decision : goal.returns-clause-decision
returns-clause-decision c = λ name created history of.
    let moment = c.in_ok-moment.moment in
    let by = next_moment-by created c.last_moment.result history c.args.now
    (c.last_moment.ensures.last created history of) in
    let live = ok_at (live_entry history c.args.number) (λ s. s.updated ≡ c.in_ok-stored.stored)
    (c.in_ok-stored.ensures.entry created history of) in
    let d = decide-delete name created history c.args.number c.args.now (Ok live.0) (Ok moment) (sym live.1)
    (sym c.in_ok-moment.was ∙ c.next_moment.ensures ∙ by) in
    let when : c.max-when.result ≡ later_of moment live.0.updated =
    c.max-when.ensures ∙ ord_max-later moment c.in_ok-stored.stored ∙ ap (later_of moment) (sym live.2) in
    ap (λ (w : ℤ). Ok (Remove record { tombstone = record { number = c.args.number; when = w }; moment = moment }))
    when ∙ sym d

pub returns-in_err-moment-clause-decision : goal.returns-in_err-moment-clause-decision
returns-in_err-moment-clause-decision c = λ name created history of.
    let by = next_moment-by created c.last_moment.result history c.args.now
    (c.last_moment.ensures.last created history of) in
    let live = ok_at (live_entry history c.args.number) (λ s. s.updated ≡ c.in_ok-stored.stored)
    (c.in_ok-stored.ensures.entry created history of) in
    let d = decide-delete name created history c.args.number c.args.now (Ok live.0) (Err c.in_err-moment.field-0.0)
    (sym live.1) (sym c.in_err-moment.was ∙ c.next_moment.ensures ∙ by) in
    let back : c.from_residual-in_err-moment.result ≡ Err c.in_err-moment.field-0.0 = search rules in
    back ∙ sym d

pub returns-in_err-stored-clause-decision : goal.returns-in_err-stored-clause-decision
returns-in_err-stored-clause-decision c = λ name created history of.
    let back : c.from_residual.result ≡ Err c.in_err-stored.field-0.0 = search rules in
    let live = c.in_err-stored.ensures.entry created history of in
    back ∙ sym (decide-delete name created history c.args.number c.args.now (Err c.in_err-stored.field-0.0)
    (next_moment created history c.args.now) (sym live) refl)
