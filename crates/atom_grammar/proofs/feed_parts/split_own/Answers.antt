use Rattle.std.proofs.Common.{◌≡◌, Some, None, arith, codes}
use Rattle.std.proofs.lemmas.Bool.Decides.{Decides-eqb}
use Rattle.std.proofs.lemmas.Slice.Eq.{strip_suffix_is}
use Rattle.atom_grammar.proofs.OwnAddressLemmas.{feed_is, archive_found, archive_is, no_own, no_slash, archive_parts}
use Rattle.atom_grammar.proofs.feed_parts.split_own.Goals.{then-number-eq0-via-then-number-eq0, then-number-eq0-via-else-number-eq0+then-number-gt-MAX_ARCHIVE}
use Rattle.atom_grammar.proofs.feed_parts.split_own.Goals as goal

pub returns-in-Some-clause-found : goal.returns-in-Some-clause-found
returns-in-Some-clause-found c =
    (tt, strip_suffix_is Decides-eqb c.args.text.now (codes "feed") (Some c.in-Some.base) c.in-Some.ensures.cases)

pub returns-in-Some-clause-only : goal.returns-in-Some-clause-only
returns-in-Some-clause-only c = λ base kind is e.
    feed_is c.args.text.now c.in-Some.base.now base kind
    (strip_suffix_is Decides-eqb c.args.text.now (codes "feed") (Some c.in-Some.base) c.in-Some.ensures.cases) is
    e

pub returns-in_err-front-clause-only : goal.returns-in_err-front-clause-only
returns-in_err-front-clause-only c = λ base kind is e.
    let text = c.args.text.now in
    absurd (no_own text base kind (strip_suffix_is Decides-eqb text (codes "feed") None c.in_default.ensures.cases)
    (λ n counted. no_slash text base n c.in_err-front.ensures) is e)

pub returns-in_err-base-clause-only : goal.returns-in_err-base-clause-only
returns-in_err-base-clause-only c = λ base kind is e.
    let text = c.args.text.now in
    let front = c.in_ok-front.front.now in
    let digits = c.in_ok-front.digits.now in
    let other = strip_suffix_is Decides-eqb front (codes "archive") None c.in_err-base.ensures.cases in
    absurd (no_own text base kind (strip_suffix_is Decides-eqb text (codes "feed") None c.in_default.ensures.cases)
    (λ n counted f. other base
    (archive_parts text front digits base n c.in_ok-front.ensures.0 c.in_ok-front.ensures.1 counted f).0) is e)

pub returns-in_err-number-clause-only : goal.returns-in_err-number-clause-only
returns-in_err-number-clause-only c = λ base kind is e.
    let text = c.args.text.now in
    let front = c.in_ok-front.front.now in
    let digits = c.in_ok-front.digits.now in
    absurd (no_own text base kind (strip_suffix_is Decides-eqb text (codes "feed") None c.in_default.ensures.cases)
    (λ n counted f.
    let h : None ≡ Some n =
    c.in_err-number.ensures.only n (omega (arith, counted.1))
    (archive_parts text front digits base n c.in_ok-front.ensures.0 c.in_ok-front.ensures.1 counted f).1 in
    cc) is e)

pub returns-then-number-eq0-clause-only : goal.returns-then-number-eq0-clause-only
returns-then-number-eq0-clause-only c = λ base kind is e.
    let text = c.args.text.now in
    let front = c.in_ok-front.front.now in
    let digits = c.in_ok-front.digits.now in
    no_own text base kind (strip_suffix_is Decides-eqb text (codes "feed") None c.in_default.ensures.cases)
    (λ n counted f.
    let h : Some c.in_ok-number.number ≡ Some n =
    c.in_ok-number.ensures.only n (omega (arith, counted.1))
    (archive_parts text front digits base n c.in_ok-front.ensures.0 c.in_ok-front.ensures.1 counted f).1 in
    let same : c.in_ok-number.number ≡ n = cc in
    elim c.then-number-eq0.branch [
      | then-number-eq0-via-then-number-eq0 w ↦ omega (arith, same, counted.0, w.if-number-eq0.true)
      | then-number-eq0-via-else-number-eq0+then-number-gt-MAX_ARCHIVE w ↦ omega
          (arith, same, counted.1, w.if-number-gt-MAX_ARCHIVE.true)
    ]) is e

pub returns-clause-found : goal.returns-clause-found
returns-clause-found c =
    let front_is =
    strip_suffix_is Decides-eqb c.in_ok-front.front.now (codes "archive") (Some c.in_ok-base.base)
    c.in_ok-base.ensures.cases in (
      (
        omega (arith, c.if-number-eq0.false),
        omega (arith, c.if-number-gt-MAX_ARCHIVE.false, c.in_ok-number.ensures.found.0),
      ),
      archive_found c.args.text.now c.in_ok-front.front.now c.in_ok-front.digits.now c.in_ok-base.base.now
          c.in_ok-number.number c.in_ok-front.ensures.0 front_is c.in_ok-number.ensures.found.1,
    )

pub returns-clause-only : goal.returns-clause-only
returns-clause-only c = λ base kind is e.
    let front_is =
    strip_suffix_is Decides-eqb c.in_ok-front.front.now (codes "archive") (Some c.in_ok-base.base)
    c.in_ok-base.ensures.cases in
    archive_is c.args.text.now c.in_ok-front.front.now c.in_ok-front.digits.now c.in_ok-base.base.now base
    c.in_ok-number.number kind c.in_ok-front.ensures.0 front_is c.in_ok-number.ensures.found.1 (
      omega (arith, c.if-number-eq0.false),
      omega (arith, c.if-number-gt-MAX_ARCHIVE.false, c.in_ok-number.ensures.found.0),
    ) is e
