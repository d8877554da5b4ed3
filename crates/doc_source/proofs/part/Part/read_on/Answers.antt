use Rattle.std.proofs.Common.{◌≡◌, ◌+◌, ◌-◌, ◌≤◌, ℕ, List, [], ◌∷◌, ◌++◌, length, nat_eq, false, Some, Result, Ok, sym, ap, ◌∙◌, subst, arith}
use Rattle.std.specs.List.{ends_with}
use Rattle.std.proofs.lemmas.List.{append-nil}
use Rattle.atom_values.specs.Ascii.{lf}
use Rattle.atom_values.specs.declared.memory.Failed.{Failed}
use Rattle.feed_disk.specs.Raised.{RisesAtMost}
use Rattle.doc_source.specs.Intake.{IntakeState}
use Rattle.doc_source.specs.Part.{part_text, with_part}
use Rattle.doc_source.specs.declared.intake.Filled.{Filled}
use Rattle.doc_source.specs.declared.intake.Filled.TheVariants.{End, Limit, More}
use Rattle.doc_source.proofs.IntakeLemmas.{rises_filled, takes_as, takes_behind, takes_both, takes_if}
use Rattle.doc_source.proofs.SeenLemmas.{
  body_ends,
  body_open,
  body_other,
  body_too_long,
  ends_other,
  ends_whole,
  part_moved,
  seen,
  seen_all,
  seen_as,
}
use Rattle.doc_source.proofs.part.Part.read_on.Goals as goal

pub returns-in-End-clause-refused : goal.returns-in-End-clause-refused
returns-in-End-clause-refused g c = λ observable.
    let observable' = g.S.Source.observable in
    let used = c.args.used in
    let before = with_part used (Some c.args.self.now) c.args.intake.now in
    let part = c.loop-self.self in
    let now = with_part used (Some part) c.loop-self.intake in
    let source = g.S.Source.state c.args.source.now in
    let rest = g.S.Source.state c.loop-self.source in
    let saw = seen observable' used before now source rest observable c.loop-self.invariant.takes c.requires.sum
    c.loop-self.invariant.bound in
    let is : c.fill_if_empty.result ≡ Ok End = let r = c.in_ok-fill_if_empty.was in let e = c.in-End.is in cc in
    let same = c.fill_if_empty.ensures.stays
    (λ e. absurd (let f : ◌≡◌ {A = Result Filled Failed} (Ok End) (Ok More) = sym is ∙ e in cc)) in
    let none = c.fill_if_empty.ensures.empty
    (λ e. absurd (let f : ◌≡◌ {A = Result Filled Failed} (Ok End) (Ok More) = sym is ∙ e in cc)) in
    let all : part_text used part ++ c.loop-self.intake.ahead ≡ part_text used part =
    ap (λ (x : List ℕ). part_text used part ++ x) none ∙ append-nil (part_text used part) in
    let short : length part.behind.items ≤ part.count = omega (arith, c.loop-self-test.true, c.len.ensures) in
    rw c.bad_offer.ensures (body_ends used before source part rest.left
    (seen_as used before source now.ahead (part_text used part) rest.left all saw)
    (c.fill_if_empty.ensures.end is observable) c.loop-self.invariant.part short)

pub returns-in-Limit-clause-refused : goal.returns-in-Limit-clause-refused
returns-in-Limit-clause-refused g c = λ observable.
    let observable' = g.S.Source.observable in
    let used = c.args.used in
    let before = with_part used (Some c.args.self.now) c.args.intake.now in
    let part = c.loop-self.self in
    let now = with_part used (Some part) c.loop-self.intake in
    let source = g.S.Source.state c.args.source.now in
    let rest = g.S.Source.state c.loop-self.source in
    let saw = seen observable' used before now source rest observable c.loop-self.invariant.takes c.requires.sum
    c.loop-self.invariant.bound in
    let is : c.fill_if_empty.result ≡ Ok Limit = let r = c.in_ok-fill_if_empty.was in let e = c.in-Limit.is in cc in
    let same = c.fill_if_empty.ensures.stays
    (λ e. absurd (let f : ◌≡◌ {A = Result Filled Failed} (Ok Limit) (Ok More) = sym is ∙ e in cc)) in
    let none = c.fill_if_empty.ensures.empty
    (λ e. absurd (let f : ◌≡◌ {A = Result Filled Failed} (Ok Limit) (Ok More) = sym is ∙ e in cc)) in
    let all : part_text used part ++ c.loop-self.intake.ahead ≡ part_text used part =
    ap (λ (x : List ℕ). part_text used part ++ x) none ∙ append-nil (part_text used part) in
    let short : length part.behind.items ≤ part.count = omega (arith, c.loop-self-test.true, c.len.ensures) in
    let full = seen_all observable' used before now source rest c.loop-self.invariant.takes c.requires.sum
    (c.fill_if_empty.ensures.limit is) in (
      c.limit.ensures ∙ ap (λ (x : IntakeState). x.limit) same ∙ c.loop-self.invariant.takes.limit,
      body_too_long used before source part rest.left
          (seen_as used before source now.ahead (part_text used part) rest.left all saw) (sym (ap length all) ∙ full)
          (c.fill_if_empty.ensures.goes_on is observable) c.loop-self.invariant.part short,
    )

pub returns-in_err-fill_if_empty-clause-open : goal.returns-in_err-fill_if_empty-clause-open
returns-in_err-fill_if_empty-clause-open g c = λ _.
    let used = c.args.used in
    let part = c.loop-self.self in
    let other : c.fill_if_empty.result ≡ Ok More → ⊥ = λ e. cc (e, c.in_err-fill_if_empty.was) in
    let none : c.fill_if_empty.new.self.ahead ≡ [] =
    ap (λ (x : IntakeState). x.ahead) (c.fill_if_empty.ensures.stays other) ∙ c.fill_if_empty.ensures.empty other in
    let all : part_text used part ++ c.fill_if_empty.new.self.ahead ≡ part_text used part =
    ap (λ (x : List ℕ). part_text used part ++ x) none ∙ append-nil (part_text used part) in
    let short : length part.behind.items ≤ part.count = omega (arith, c.loop-self-test.true, c.len.ensures) in
    body_open used part (part_text used part ++ c.fill_if_empty.new.self.ahead) all c.loop-self.invariant.part short

pub returns-else-ends_with-clause-refused : goal.returns-else-ends_with-clause-refused
returns-else-ends_with-clause-refused g c = λ observable.
    let observable' = g.S.Source.observable in
    let used = c.args.used in
    let before = with_part used (Some c.args.self.now) c.args.intake.now in
    let part = c.loop-self.self in
    let now = with_part used (Some part) c.loop-self.intake in
    let source = g.S.Source.state c.args.source.now in
    let rest = g.S.Source.state c.loop-self.source in
    let saw = seen observable' used before now source rest observable c.loop-self.invariant.takes c.requires.sum
    c.loop-self.invariant.bound in
    let full : length part.behind.items ≡ part.count + 1 =
    omega (arith, c.loop-self-test.false, c.len.ensures, c.loop-self.invariant.part.within) in
    let other : ends_with nat_eq part.behind.items (lf ∷ []) ≡ false =
    ap (λ (x : List ℕ). ends_with nat_eq x (lf ∷ [])) (sym c.deref.ensures.value) ∙ sym c.ends_with.ensures.value
    ∙ c.if-ends_with.false in
    rw c.bad_offer-else-ends_with.ensures (body_other used before source part c.loop-self.intake.ahead rest.left saw
    c.loop-self.invariant.part full (ends_other part other))

pub returns-then-ends_with-clause-whole : goal.returns-then-ends_with-clause-whole
returns-then-ends_with-clause-whole g c =
    let part = c.loop-self.self in
    ends_whole part c.loop-self.invariant.part (omega (arith, c.loop-self-test.false, c.len.ensures))
    (ap (λ (x : List ℕ). ends_with nat_eq x (lf ∷ [])) (sym c.deref.ensures.value) ∙ sym c.ends_with.ensures.value
    ∙ c.if-ends_with.true)

pub loop-self-preserved : goal.loop-self-preserved
loop-self-preserved g c =
    let observable' = g.S.Source.observable in
    let used = c.args.used in
    let before = with_part used (Some c.args.self.now) c.args.intake.now in
    let part = c.loop-self.self in
    let now = with_part used (Some part) c.loop-self.intake in
    let source = g.S.Source.state c.args.source.now in
    let rest = g.S.Source.state c.loop-self.source in
    let is : c.fill_if_empty.result ≡ Ok More = let r = c.in_ok-fill_if_empty.was in let e = c.in-More.is in cc in
    let after = g.S.Source.state c.fill_if_empty.new.source in
    let filled = c.fill_if_empty.new.self in
    let took = c.take_from.new.self in
    let line = c.take_from.ensures.line in
    let counts = c.take_from.ensures.counts in
    let more = takes_behind observable' (part_text used part) c.loop-self.intake filled rest after
    (takes_if _ observable' c.loop-self.intake filled rest after
    (λ t. (t, λ e. absurd (let f : ◌≡◌ {A = Result Filled Failed} (Ok More) (Ok Limit) = sym is ∙ e in cc)))
    c.fill_if_empty.ensures.takes) in
    let moved = takes_as observable' now (with_part used (Some part) filled)
    (with_part used (Some took) c.take_from.new.intake) rest after more
    (part_moved used part took filled.ahead c.take_from.new.intake.ahead line.0 line.1 c.take_from.ensures.moved)
    counts.0 counts.1 in
    record {
      part = c.take_from.ensures.part;
      bound = omega (arith, counts.0, counts.1, c.fill_if_empty.ensures.bound);
      takes = takes_both observable' before now (with_part used (Some took) c.take_from.new.intake) source rest after
          c.loop-self.invariant.takes moved;
      read = subst (λ (n : ℕ). RisesAtMost (n - c.args.intake.now.taken) source.bytes_read after.bytes_read)
          (sym counts.0)
          (rises_filled c.args.intake.now.taken c.loop-self.intake.taken filled.taken source.bytes_read rest.bytes_read
          after.bytes_read c.fill_if_empty.result (omega (arith, c.loop-self.invariant.takes.taken))
          (omega (arith, c.fill_if_empty.ensures.takes.taken)) c.loop-self.invariant.read is
          c.fill_if_empty.ensures.read);
      faults = c.in_ok-fill_if_empty.ensures.counts.worked ∙ c.loop-self.invariant.faults;
    }

pub returns-in_err-take_from-in-More-clause-takes : goal.returns-in_err-take_from-in-More-clause-takes
returns-in_err-take_from-in-More-clause-takes g c =
    let observable' = g.S.Source.observable in
    let used = c.args.used in
    let before = with_part used (Some c.args.self.now) c.args.intake.now in
    let part = c.loop-self.self in
    let now = with_part used (Some part) c.loop-self.intake in
    let source = g.S.Source.state c.args.source.now in
    let rest = g.S.Source.state c.loop-self.source in
    let is : c.fill_if_empty.result ≡ Ok More = let r = c.in_ok-fill_if_empty.was in let e = c.in-More.is in cc in
    let after = g.S.Source.state c.fill_if_empty.new.source in
    let filled = c.fill_if_empty.new.self in
    let took = c.take_from.new.self in
    let line = c.take_from.ensures.line in
    let counts = c.take_from.ensures.counts in
    let more = takes_behind observable' (part_text used part) c.loop-self.intake filled rest after
    (takes_if _ observable' c.loop-self.intake filled rest after
    (λ t. (t, λ e. absurd (let f : ◌≡◌ {A = Result Filled Failed} (Ok More) (Ok Limit) = sym is ∙ e in cc)))
    c.fill_if_empty.ensures.takes) in
    let moved = takes_as observable' now (with_part used (Some part) filled)
    (with_part used (Some took) c.take_from.new.intake) rest after more
    (part_moved used part took filled.ahead c.take_from.new.intake.ahead line.0 line.1 c.take_from.ensures.moved)
    counts.0 counts.1 in
    takes_if observable' _ before (with_part used (Some took) c.take_from.new.intake) source after (λ t. t.0)
    (takes_both observable' before now (with_part used (Some took) c.take_from.new.intake) source rest after
    c.loop-self.invariant.takes moved)
