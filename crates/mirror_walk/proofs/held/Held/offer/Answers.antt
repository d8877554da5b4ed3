use Rattle.std.proofs.Common.{◌≡◌, ◌⊎◌, Err, subst}
use Rattle.std.proofs.lemmas.Result.{err_from_is_err_and}
use Rattle.mirror_walk.specs.declared.answer.Offered.TheVariants.{NoMemory}
use Rattle.mirror_walk.specs.Accept.{accept}
use Rattle.mirror_walk.specs.Holding.{HeldValue}
use Rattle.mirror_walk.proofs.HeldOfferLemmas.{held-refused, refused-answer}
use Rattle.mirror_walk.proofs.held.Held.offer.Goals as goal

pub returns-in_err-accepted-clause-answer : goal.returns-in_err-accepted-clause-answer
returns-in_err-accepted-clause-answer c =
    let base = c.args.self.now.base in
    let kept = c.args.self.now.kept in
    let address = c.args.address.now in
    let bytes = c.args.bytes.now in
    let given = c.in_ok-given.given.kept in
    let refusal = c.in_err-accepted.field-0.0 in
    let refused = subst (λ (h : HeldValue). (refusal ≡ NoMemory) ⊎ (accept h.base h.kept address given
    ≡ Err refusal)) c.self.view_is c.in_err-accepted.ensures.first_fit in
    let returned = err_from_is_err_and c.from_residual-in_err-accepted.result
    c.from_residual-in_err-accepted.ensures.1 in
    rw (returned.1, returned.2) (refused-answer base kept address bytes refusal
    (held-refused base kept address bytes given c.in_ok-given.ensures.found refusal refused))
