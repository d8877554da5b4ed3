use Rattle.std.proofs.Common.{◌≡◌, Ok, Err, sym, refl, ap, ◌∙◌, rules}
use Rattle.member_rules.specs.Decide.{live_entry, next_moment, unless_other}
use Rattle.member_rules.proofs.DecisionLemmas.{moments-by, next_moment-by, ok_at}
use Rattle.member_rules.proofs.decision.moments.Goals as goal

pub returns-clause-moments : goal.returns-clause-moments
returns-clause-moments c = λ created history of.
    let moment = c.in_ok-moment.moment in
    let number = c.args.number in
    let live = ok_at (live_entry history number) (λ s. s.updated ≡ c.in_ok-stored.stored)
    (c.in_ok-stored.ensures.entry created history of) in
    let by = sym c.in_ok-moment.was ∙ c.next_moment.ensures
    ∙ next_moment-by created c.last_moment.result history c.args.now
    (c.last_moment.ensures.last created history of) in
    sym (moments-by c.args.name.now created history number c.args.id c.args.now (Ok live.0)
    (Ok c.in_ok-refuse_other.field-0) (Ok moment) (sym live.1)
    (sym c.in_ok-refuse_other.was ∙ c.refuse_other.ensures) by
    ∙ ap (λ stored. Ok (stored, moment)) live.2)

pub returns-in_err-moment-clause-moments : goal.returns-in_err-moment-clause-moments
returns-in_err-moment-clause-moments c = λ created history of.
    let number = c.args.number in
    let live = ok_at (live_entry history number) (λ s. s.updated ≡ c.in_ok-stored.stored)
    (c.in_ok-stored.ensures.entry created history of) in
    let by = sym c.in_err-moment.was ∙ c.next_moment.ensures
    ∙ next_moment-by created c.last_moment.result history c.args.now
    (c.last_moment.ensures.last created history of) in
    let back : c.from_residual-in_err-moment.result ≡ Err c.in_err-moment.field-0.0 = search rules in
    back ∙ sym (moments-by c.args.name.now created history number c.args.id c.args.now (Ok live.0)
    (Ok c.in_ok-refuse_other.field-0) (Err c.in_err-moment.field-0.0) (sym live.1)
    (sym c.in_ok-refuse_other.was ∙ c.refuse_other.ensures) by)

pub returns-in_err-refuse_other-clause-moments : goal.returns-in_err-refuse_other-clause-moments
returns-in_err-refuse_other-clause-moments c = λ created history of.
    let number = c.args.number in
    let live = ok_at (live_entry history number) (λ s. s.updated ≡ c.in_ok-stored.stored)
    (c.in_ok-stored.ensures.entry created history of) in
    let back : c.from_residual-in_err-refuse_other.result ≡ Err c.in_err-refuse_other.field-0.0 = search rules in
    back ∙ sym (moments-by c.args.name.now created history number c.args.id c.args.now (Ok live.0)
    (Err c.in_err-refuse_other.field-0.0) (next_moment created history c.args.now) (sym live.1)
    (sym c.in_err-refuse_other.was ∙ c.refuse_other.ensures) refl)

pub returns-in_err-stored-clause-moments : goal.returns-in_err-stored-clause-moments
returns-in_err-stored-clause-moments c = λ created history of.
    let number = c.args.number in
    let live = c.in_err-stored.ensures.entry created history of in
    let back : c.from_residual.result ≡ Err c.in_err-stored.field-0.0 = search rules in
    back ∙ sym (moments-by c.args.name.now created history number c.args.id c.args.now
    (Err c.in_err-stored.field-0.0) (unless_other c.args.name.now number c.args.id)
    (next_moment created history c.args.now) (sym live) refl refl)
