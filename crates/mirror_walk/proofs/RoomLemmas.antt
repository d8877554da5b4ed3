-- The answers of a mirror whose area has a capacity are those of a mirror in memory, but for `Full`.
use Rattle.std.proofs.Common.{◌≡◌, ℕ, ◌+◌, nat_lt, Bool, true, false, cond, List, Ok, Err, subst}
use Rattle.mirror_walk.specs.declared.answer.Accepted.{Accepted}
use Rattle.mirror_walk.specs.declared.answer.Accepted.TheVariants.{Taken, Known, Stale}
use Rattle.mirror_walk.specs.declared.answer.Offered.{Offered}
use Rattle.mirror_walk.specs.declared.answer.Offered.TheVariants.{NotADocument, WrongAddress, WrongFeed}
use Rattle.mirror_walk.specs.declared.answer.Offered.TheVariants.{Conflict, Break, Full, DiskFault, NoMemory}
use Rattle.mirror_walk.specs.Holding.{KeptValue}
use Rattle.mirror_walk.specs.Accept.{Answer, AnswersDocument, IsAnswer, IsAnswerWithin, IsForRoom, accept}
use Rattle.mirror_walk.specs.Accept.{accept_within, within}

-- a test of the room that the first answer didn't come from
roomed : (test : Bool) (full other answer : Answer) → answer ≡ cond test full other → (answer ≡ full → ⊥)
    → answer ≡ other
roomed true full other answer e not = absurd (not e)
roomed false full other answer e not = e

within-ok : (capacity size needed : ℕ) (answer : Answer) (accepted : Accepted)
    → Ok accepted ≡ within capacity size needed answer → Ok accepted ≡ answer
within-ok capacity size needed (Ok Taken) accepted e =
    roomed (nat_lt capacity (size + needed)) (Err (Full size needed capacity)) (Ok Taken) (Ok accepted) e
    (λ is. cc)
within-ok capacity size needed (Ok Known) accepted e = e
within-ok capacity size needed (Ok Stale) accepted e = e
within-ok capacity size needed (Err refusal) accepted e = e

within-err : (capacity size needed : ℕ) (answer : Answer) (why : Offered) → (¬ IsForRoom why)
    → Err why ≡ within capacity size needed answer → Err why ≡ answer
within-err capacity size needed (Ok Taken) why of_document e =
    roomed (nat_lt capacity (size + needed)) (Err (Full size needed capacity)) (Ok Taken) (Err why) e
    (λ is. let same : Full size needed capacity ≡ why = cc in of_document (subst IsForRoom same tt))
within-err capacity size needed (Ok Known) why of_document e = e
within-err capacity size needed (Ok Stale) why of_document e = e
within-err capacity size needed (Err refusal) why of_document e = e

fits-ok : (capacity : ℕ) (base : List ℕ) (kept : List KeptValue) (address : List ℕ) (given : KeptValue)
    (accepted : Accepted)
    → Ok accepted ≡ accept_within capacity base kept address given → Ok accepted ≡ accept base kept address
    given
unfolding accept_within
fits-ok capacity base kept address given accepted e = within-ok _ _ _ (accept base kept address given)
    accepted e

fits-err : (capacity : ℕ) (base : List ℕ) (kept : List KeptValue) (address : List ℕ) (given : KeptValue)
    (why : Offered)
    → (¬ IsForRoom why) → Err why ≡ accept_within capacity base kept address given
    → Err why ≡ accept base kept address given
unfolding accept_within
fits-err capacity base kept address given why is e = within-err _ _ _ (accept base kept address given) why is
    e

-- a document that is accepted within the capacity
pub within-accepted : (capacity : ℕ) (base : List ℕ) (kept : List KeptValue) (address bytes : List ℕ)
    (accepted : Accepted)
    (left : List KeptValue) → IsAnswerWithin capacity base kept address bytes (Ok accepted) left
    → AnswersDocument base kept address bytes (Ok accepted) left
within-accepted capacity base kept address bytes accepted left answers = record {
  given = answers.given;
  read = answers.read;
  first_fit = fits-ok capacity base kept address answers.given accepted answers.first_fit;
  left_over = answers.left_over;
}

-- a refusal of the document itself
pub within-refused : (capacity : ℕ) (base : List ℕ) (kept : List KeptValue) (address bytes : List ℕ)
    (why : Offered)
    (left : List KeptValue) → (¬ IsForRoom why) → IsAnswerWithin capacity base kept address bytes (Err why)
    left
    → IsAnswer base kept address bytes (Err why) left
within-refused capacity base kept address bytes (NotADocument at) left is answers = answers
within-refused capacity base kept address bytes (Full size needed most) left is answers = absurd (is tt)
within-refused capacity base kept address bytes DiskFault left is answers = absurd (is tt)
within-refused capacity base kept address bytes NoMemory left is answers = absurd (is tt)
within-refused capacity base kept address bytes (WrongAddress says) left is answers = record {
  given = answers.given;
  read = answers.read;
  first_fit = fits-err capacity base kept address answers.given (WrongAddress says) (λ h. h)
      answers.first_fit;
  left_over = answers.left_over;
}
within-refused capacity base kept address bytes (WrongFeed one other) left is answers = record {
  given = answers.given;
  read = answers.read;
  first_fit = fits-err capacity base kept address answers.given (WrongFeed one other) (λ h. h)
      answers.first_fit;
  left_over = answers.left_over;
}
within-refused capacity base kept address bytes (Conflict own one other) left is answers = record {
  given = answers.given;
  read = answers.read;
  first_fit = fits-err capacity base kept address answers.given (Conflict own one other) (λ h. h)
      answers.first_fit;
  left_over = answers.left_over;
}
within-refused capacity base kept address bytes (Break last first) left is answers = record {
  given = answers.given;
  read = answers.read;
  first_fit = fits-err capacity base kept address answers.given (Break last first) (λ h. h) answers.first_fit;
  left_over = answers.left_over;
}
