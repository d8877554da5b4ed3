use Rattle.std.proofs.Common.{◌≡◌, ◌+◌, ◌≤◌, length, ℕ, List, Option, Some, Ok, Err, sym, ◌∙◌, ap, subst}
use Rattle.std.specs.Prelude.{unwrap_or}
use Rattle.std.proofs.lemmas.Result.{err_from_is_err_and}
use Rattle.mirror_walk.specs.declared.answer.Accepted.{Accepted}
use Rattle.mirror_walk.specs.declared.answer.Accepted.TheVariants.{Taken}
use Rattle.feed_journal.specs.Limits.{header_length}
use Rattle.mirror_walk.specs.Accept.{IsKeptOf, accept}
use Rattle.mirror_walk.specs.Checks.{IsNew}
use Rattle.mirror_walk.specs.Mirror.{KeepsMirror, MirrorValue}
use Rattle.mirror_walk.specs.Taking.{IsAnswerBefore, IsChecked}
use Rattle.mirror_walk.proofs.CheckedLemmas.{accepted-checked, full-checked, refusal-checked}
use Rattle.mirror_walk.proofs.TakenLemmas.{taken-next}
use Rattle.mirror_walk.proofs.mirror.Mirror.check.Goals as goal
use Rattle.mirror_walk.proofs.mirror.Mirror.check.Goals.{After-check, In_default}

-- the mirror, by its fields
abbrev mirror : After-check → MirrorValue
mirror c = record {
  base = c.self.inside.documents.base;
  kept = c.self.inside.documents.kept;
  listed = c.self.inside.documents.listed;
  capacity = c.self.inside.capacity;
  log = c.self.inside.log;
}

pub returns-in_err-accepted : goal.returns-in_err-accepted
returns-in_err-accepted c =
    let d = (goal.at.returns-in_err-accepted c).After-check in
    let refusal = c.in_err-accepted.field-0.0 in
    let found = refusal-checked (mirror d) c.args.address.now c.args.bytes.now c.in_ok-given.given.kept
    c.in_ok-given.ensures.found refusal c.in_err-accepted.ensures.first_fit in
    let returned = err_from_is_err_and c.from_residual-in_err-accepted.result
    c.from_residual-in_err-accepted.ensures.1 in
    rw (returned.1, returned.2) (subst (λ (m : MirrorValue). IsChecked m c.args.address.now c.args.bytes.now
    (Err refusal))
    c.self.view_is found)

pub returns-in-Some : goal.returns-in-Some
returns-in-Some c =
    let d = (goal.at.returns-in-Some c).After-check in
    let accepted = c.in-Some.accepted in
    let other = λ (is : accepted ≡ Taken).
    c.in_ok-accepted.ensures.not_taken (ap Ok (c.in-Some.is ∙ ap (λ (a : Accepted). Some a) is)) in
    let answer = accepted-checked (mirror d) c.args.address.now c.args.bytes.now c.in_ok-given.given.kept
    c.in_ok-given.ensures.found accepted
    (c.in_ok-accepted.ensures.first_fit ∙ ap (λ (o : Option Accepted). Ok (unwrap_or o Taken)) c.in-Some.is)
    other in (
      other,
      subst (λ (m : MirrorValue). IsAnswerBefore m c.args.address.now c.args.bytes.now (Ok accepted))
          c.self.view_is
          answer,
    )

-- the document is taken
taken : (c : In_default) → accept c.args.self.now.base c.args.self.now.kept c.args.address.now
    c.in_ok-given.given.kept
    ≡ Ok Taken
taken c = subst (λ (m : MirrorValue). accept m.base m.kept c.args.address.now c.in_ok-given.given.kept ≡ Ok Taken)
    c.self.view_is
    (c.in_ok-accepted.ensures.first_fit
    ∙ ap (λ (o : Option Accepted). Ok (unwrap_or o Taken)) c.in_default.is)

pub returns-in_err-framed : goal.returns-in_err-framed
returns-in_err-framed c =
    let d = (goal.at.returns-in_err-framed c).In_default in
    let refusal = c.in_err-framed.field-0.0 in
    let keeps = subst KeepsMirror c.self.view_is c.self.invariant in
    let found = full-checked c.args.self.now c.args.address.now c.args.bytes.now c.in_ok-given.given.kept
    c.in_ok-given.ensures.found refusal (taken d) (keeps.documents c.requires.unspent).size
    c.in_err-framed.ensures.full in
    let returned = err_from_is_err_and c.from_residual-in_err-framed.result
    c.from_residual-in_err-framed.ensures.1 in
    rw (returned.1, returned.2) found

pub returns : goal.returns
returns c =
    let d = (goal.at.returns c).In_default in
    let given = c.in_ok-given.given.kept in
    let bytes_are = c.in_ok-framed.ensures.framed in (
      c.in_ok-given.ensures.name,
      record {
        bytes_are = bytes_are;
        accepted = taken d;
        taken = record {
          read = subst (λ (b : List ℕ). IsKeptOf b given) (sym bytes_are) c.in_ok-given.ensures.found;
          next = taken-next c.args.self.now.base c.args.self.now.kept c.args.address.now given (taken d);
          new = subst (λ (m : MirrorValue). IsNew m.kept given.document) c.self.view_is
              (c.in_ok-accepted.ensures.new (ap Ok c.in_default.is));
          fits = subst (λ (b : List ℕ). c.args.self.now.log.size + (length b + header_length) ≤
              c.args.self.now.capacity)
              (sym bytes_are) c.in_ok-framed.ensures.fits;
        };
      },
    )
