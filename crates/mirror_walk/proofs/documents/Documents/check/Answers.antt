use Rattle.std.proofs.Common.{[], ◌∷◌}
use Rattle.mirror_walk.specs.Accept.{accept, broken, conflict, first_of, known, stale, wrong_address}
use Rattle.mirror_walk.specs.Accept.{wrong_feed}
use Rattle.mirror_walk.proofs.AcceptLemmas.{by-address, by-compared, by-feed, by-neighbours, by-none}
use Rattle.mirror_walk.proofs.AcceptLemmas.{check-refused}
use Rattle.mirror_walk.proofs.documents.Documents.check.Goals as goal

-- a refusal by the first check that doesn't pass
pub returns-in_err-check_address-clause-first_fit : goal.returns-in_err-check_address-clause-first_fit
returns-in_err-check_address-clause-first_fit c =
    let base = c.args.self.now.base in
    let kept = c.args.self.now.kept in
    let given = c.args.given.now in
    check-refused (accept base kept c.args.address.now given)
    (wrong_address base c.args.address.now given.document)
    c.in_err-check_address.field-0.0 c.from_residual.result c.from_residual.ensures.1
    c.in_err-check_address.ensures
    (by-address base kept c.args.address.now given)

pub returns-in_err-check_feed-clause-first_fit : goal.returns-in_err-check_feed-clause-first_fit
returns-in_err-check_feed-clause-first_fit c =
    let base = c.args.self.now.base in
    let kept = c.args.self.now.kept in
    let given = c.args.given.now in
    check-refused (accept base kept c.args.address.now given) (wrong_feed kept given.document)
    c.in_err-check_feed.field-0.0 c.from_residual-in_err-check_feed.result
    c.from_residual-in_err-check_feed.ensures.1
    c.in_err-check_feed.ensures (by-feed base kept c.args.address.now given c.in_ok-check_address.ensures)

pub returns-in_err-answer-clause-first_fit : goal.returns-in_err-answer-clause-first_fit
returns-in_err-answer-clause-first_fit c =
    let base = c.args.self.now.base in
    let kept = c.args.self.now.kept in
    let given = c.args.given.now in
    check-refused (accept base kept c.args.address.now given)
    (first_of (known kept given ∷ stale kept given.document ∷ conflict kept given ∷ []))
    c.in_err-answer.field-0.0 c.from_residual-in_err-answer.result c.from_residual-in_err-answer.ensures.1
    c.in_err-answer.ensures.answer
    (by-compared base kept c.args.address.now given c.in_ok-check_address.ensures c.in_ok-check_feed.ensures)

pub returns-in-Some-clause-first_fit : goal.returns-in-Some-clause-first_fit
returns-in-Some-clause-first_fit c =
    by-compared c.args.self.now.base c.args.self.now.kept c.args.address.now c.args.given.now
    c.in_ok-check_address.ensures c.in_ok-check_feed.ensures _
    (rw c.in-Some.is at c.in_ok-answer.ensures.answer)

pub returns-in_err-check_neighbours-clause-first_fit : goal.returns-in_err-check_neighbours-clause-first_fit
returns-in_err-check_neighbours-clause-first_fit c =
    let base = c.args.self.now.base in
    let kept = c.args.self.now.kept in
    let given = c.args.given.now in
    check-refused (accept base kept c.args.address.now given) (broken kept given.document)
    c.in_err-check_neighbours.field-0.0 c.from_residual-in_err-check_neighbours.result
    c.from_residual-in_err-check_neighbours.ensures.1 c.in_err-check_neighbours.ensures
    (by-neighbours base kept c.args.address.now given c.in_ok-check_address.ensures c.in_ok-check_feed.ensures
    (rw c.in_default.is at c.in_ok-answer.ensures.answer))

pub returns-clause-first_fit : goal.returns-clause-first_fit
returns-clause-first_fit c =
    by-none c.args.self.now.base c.args.self.now.kept c.args.address.now c.args.given.now
    c.in_ok-check_address.ensures
    c.in_ok-check_feed.ensures (rw c.in_default.is at c.in_ok-answer.ensures.answer)
    c.in_ok-check_neighbours.ensures
