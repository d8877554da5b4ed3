use Rattle.std.proofs.Common.{◌≡◌, ◌<◌, ◌≤◌, ℕ, List, length, nat_eq, Result, Ok, sym, ap, ◌∙◌, subst, arith}
use Rattle.std.specs.List.{starts_with}
use Rattle.atom_values.specs.declared.memory.Failed.{Failed}
use Rattle.doc_source.specs.Intake.{IntakeState}
use Rattle.doc_source.specs.Pile.{IsOpen, pile_head}
use Rattle.doc_source.specs.declared.intake.Filled.{Filled}
use Rattle.doc_source.specs.declared.intake.Filled.TheVariants.{Limit, More}
use Rattle.doc_source.proofs.SeenLemmas.{
  has_head,
  head_ends,
  head_open,
  head_other,
  head_too_long,
  head_unfit,
  needs_no_head,
  seen,
  seen_all,
}
use Rattle.doc_source.proofs.part.read_head.Goals as goal

pub returns-then-used-gt0-clause-head : goal.returns-then-used-gt0-clause-head
returns-then-used-gt0-clause-head g c = needs_no_head c.args.used c.args.intake.now.ahead c.if-used-gt0.true

pub returns-then-not-starts_with-clause-refused : goal.returns-then-not-starts_with-clause-refused
returns-then-not-starts_with-clause-refused g c = λ observable.
    let source = g.S.Source.state c.args.source.now in
    let rest = g.S.Source.state c.loop-intake.source in
    let none : c.args.used ≡ 0 = omega (arith, c.if-used-gt0.false) in
    let short : length c.loop-intake.intake.ahead < length pile_head =
    omega (arith, c.loop-intake-test.true, ap length c.ahead.ensures.bytes) in
    let begins = ap (λ (x : List ℕ). starts_with nat_eq pile_head x) (sym c.ahead-in-loop-intake.ensures.bytes)
    ∙ sym c.starts_with.ensures.value ∙ c.if-not-starts_with.true in
    let saw = seen g.S.Source.observable c.args.used c.args.intake.now c.loop-intake.intake source rest observable
    c.loop-intake.invariant.takes c.requires.sum c.ahead.ensures.within in
    head_unfit c.args.used c.args.intake.now source c.loop-intake.intake.ahead rest.left none saw short begins

pub returns-in_err-fill-clause-open : goal.returns-in_err-fill-clause-open
returns-in_err-fill-clause-open g c = λ _.
    let none : c.args.used ≡ 0 = omega (arith, c.if-used-gt0.false) in
    let short : length c.loop-intake.intake.ahead < length pile_head =
    omega (arith, c.loop-intake-test.true, ap length c.ahead.ensures.bytes) in
    let begins = ap (λ (x : List ℕ). starts_with nat_eq pile_head x) (sym c.ahead-in-loop-intake.ensures.bytes)
    ∙ sym c.starts_with.ensures.value ∙ c.if-not-starts_with.false in
    let same : c.fill.new.self ≡ c.loop-intake.intake =
    c.fill.ensures.stays (λ e. absurd (cc (e, c.in_err-fill.was))) in
    subst (λ (x : IntakeState). IsOpen c.args.used x.ahead) (sym same)
    (head_open c.args.used c.loop-intake.intake.ahead none short begins)

pub returns-in-End-clause-refused : goal.returns-in-End-clause-refused
returns-in-End-clause-refused g c = λ observable.
    let source = g.S.Source.state c.args.source.now in
    let rest = g.S.Source.state c.loop-intake.source in
    let none : c.args.used ≡ 0 = omega (arith, c.if-used-gt0.false) in
    let short : length c.loop-intake.intake.ahead < length pile_head =
    omega (arith, c.loop-intake-test.true, ap length c.ahead.ensures.bytes) in
    head_ends c.args.used c.args.intake.now source c.loop-intake.intake.ahead rest.left none
    (seen g.S.Source.observable c.args.used c.args.intake.now c.loop-intake.intake source rest observable
    c.loop-intake.invariant.takes c.requires.sum c.ahead.ensures.within)
    (c.fill.ensures.end (let r = c.in_ok-fill.was in let e = c.in-End.is in cc) observable) short

pub returns-in-Limit-clause-refused : goal.returns-in-Limit-clause-refused
returns-in-Limit-clause-refused g c = λ observable.
    let source = g.S.Source.state c.args.source.now in
    let rest = g.S.Source.state c.loop-intake.source in
    let none : c.args.used ≡ 0 = omega (arith, c.if-used-gt0.false) in
    let short : length c.loop-intake.intake.ahead < length pile_head =
    omega (arith, c.loop-intake-test.true, ap length c.ahead.ensures.bytes) in
    let begins = ap (λ (x : List ℕ). starts_with nat_eq pile_head x) (sym c.ahead-in-loop-intake.ensures.bytes)
    ∙ sym c.starts_with.ensures.value ∙ c.if-not-starts_with.false in
    let is : c.fill.result ≡ Ok Limit = let r = c.in_ok-fill.was in let e = c.in-Limit.is in cc in
    let same : c.fill.new.self ≡ c.loop-intake.intake =
    c.fill.ensures.stays (λ e. absurd (let f : ◌≡◌ {A = Result Filled Failed} (Ok Limit) (Ok More) = sym is
    ∙ e in cc)) in
    let full = seen_all g.S.Source.observable c.args.used c.args.intake.now c.loop-intake.intake source rest
    c.loop-intake.invariant.takes c.requires.sum (c.fill.ensures.limit is) in
    let saw = seen g.S.Source.observable c.args.used c.args.intake.now c.loop-intake.intake source rest observable
    c.loop-intake.invariant.takes c.requires.sum c.ahead.ensures.within in (
      c.limit.ensures ∙ ap (λ (x : IntakeState). x.limit) same ∙ c.loop-intake.invariant.takes.limit,
      head_too_long c.args.used c.args.intake.now source c.loop-intake.intake.ahead rest.left none saw full
          (c.fill.ensures.goes_on is observable) short begins,
    )

pub returns-then-starts_with-clause-head : goal.returns-then-starts_with-clause-head
returns-then-starts_with-clause-head g c =
    let none : c.args.used ≡ 0 = omega (arith, c.if-used-gt0.false) in
    has_head c.args.used c.loop-intake.intake.ahead none
    (ap (λ (x : List ℕ). starts_with nat_eq x pile_head) (sym c.ahead-2.ensures.bytes)
    ∙ sym c.starts_with-2.ensures.value ∙ c.if-starts_with.true)

pub returns-else-starts_with-clause-refused : goal.returns-else-starts_with-clause-refused
returns-else-starts_with-clause-refused g c = λ observable.
    let source = g.S.Source.state c.args.source.now in
    let rest = g.S.Source.state c.loop-intake.source in
    let none : c.args.used ≡ 0 = omega (arith, c.if-used-gt0.false) in
    let long : length pile_head ≤ length c.loop-intake.intake.ahead =
    omega (arith, c.loop-intake-test.false, ap length c.ahead.ensures.bytes) in
    head_other c.args.used c.args.intake.now source c.loop-intake.intake.ahead rest.left none
    (seen g.S.Source.observable c.args.used c.args.intake.now c.loop-intake.intake source rest observable
    c.loop-intake.invariant.takes c.requires.sum c.ahead.ensures.within) long
    (ap (λ (x : List ℕ). starts_with nat_eq x pile_head) (sym c.ahead-2.ensures.bytes)
    ∙ sym c.starts_with-2.ensures.value ∙ c.if-starts_with.false)
