use Rattle.std.proofs.Common.{◌≡◌, ◌+◌, ℕ, ◌++◌, length, Option, Some, None, Err, sym, ap, ◌∙◌, subst, arith, length-append}
use Rattle.doc_source.specs.Intake.{TakesMore}
use Rattle.doc_source.specs.Part.{part_text, with_part}
use Rattle.doc_source.specs.Pile.{IsAnswer, PileState, unused}
use Rattle.doc_source.specs.declared.part.Part.{Part}
use Rattle.doc_source.proofs.IntakeLemmas.{takes_both, takes_if}
use Rattle.doc_source.proofs.ReaderLemmas.{
  answer_before,
  offer_used,
  offer_within,
  takes_same,
  takes_sum,
  with_part-limit,
  with_part-taken,
}
use Rattle.doc_source.proofs.reader.PileReader.read_offer.Goals as goal

pub returns-in-Err-clause-answer : goal.returns-in-Err-clause-answer
returns-in-Err-clause-answer g c = λ observable.
    let observable' = g.S.Source.observable in
    let inside = c.self.inside in
    let used = inside.used in
    let old = with_part used inside.part inside.intake in
    let mid = with_part used (Some c.in-Some.part) c.next_part.new.intake in
    let s0 = g.S.Source.state c.args.source.now in
    let s1 = g.S.Source.state c.next_part.new.source in
    let began : TakesMore observable' (with_part used c.take-kept.result inside.intake) mid s0 s1 =
    takes_if _ observable' (with_part used c.take-kept.result inside.intake) mid s0 s1 (λ t. (t, tt))
    (rw c.in-Some.is at c.in_ok-part.ensures.takes) in
    let first : TakesMore observable' old mid s0 s1 =
    subst (λ (p : Option Part). TakesMore observable' (with_part used p inside.intake) mid s0 s1) c.take-kept.ensures.value
    began in
    subst (λ (s : PileState). IsAnswer s.used s.limit (unused s s0) (Err c.in-Err.fault)) c.self.view_is
    (subst (λ (n : ℕ). IsAnswer used n (old.ahead ++ s0.left) (Err c.in-Err.fault))
    (with_part-limit used inside.part inside.intake)
    (answer_before observable' used old mid s0 s1 (Err c.in-Err.fault) observable first (c.in-Err.ensures.refused observable)))

pub overflow_sub-self : goal.overflow_sub-self
overflow_sub-self g c =
    let observable' = g.S.Source.observable in
    let inside = c.self.inside in
    let used = inside.used in
    let old = with_part used inside.part inside.intake in
    let mid = with_part used (Some c.in-Some.part) c.next_part.new.intake in
    let s0 = g.S.Source.state c.args.source.now in
    let s1 = g.S.Source.state c.next_part.new.source in
    let began : TakesMore observable' (with_part used c.take-kept.result inside.intake) mid s0 s1 =
    takes_if _ observable' (with_part used c.take-kept.result inside.intake) mid s0 s1 (λ t. (t, tt))
    (rw c.in-Some.is at c.in_ok-part.ensures.takes) in
    let first : TakesMore observable' old mid s0 s1 =
    subst (λ (p : Option Part). TakesMore observable' (with_part used p inside.intake) mid s0 s1) c.take-kept.ensures.value
    began in
    let part = c.read_on.new.self in
    let now = c.read_on.new.intake in
    let text = part_text used part in
    let s2 = g.S.Source.state c.read_on.new.source in
    let second : TakesMore observable' mid (with_part used (Some part) now) s1 s2 =
    takes_if _ observable' mid (with_part used (Some part) now) s1 s2 (λ t. (t, tt)) c.in_default-read_on.ensures.takes in
    let both = takes_both observable' old mid (with_part used (Some part) now) s0 s1 s2 first second in
    let sum : used + length (text ++ now.ahead) ≡ now.taken =
    takes_sum observable' used old (with_part used (Some part) now) s0 s2 both
    (c.self.invariant.sum ∙ sym (with_part-taken used inside.part inside.intake)) in
    let parts = length-append text now.ahead in
    omega (arith, sum, parts, ap length c.ahead.ensures.bytes, c.taken.ensures.count)

pub invariant_of-self-2 : goal.invariant_of-self-2
invariant_of-self-2 g c =
    let observable' = g.S.Source.observable in
    let inside = c.self.inside in
    let used = inside.used in
    let old = with_part used inside.part inside.intake in
    let mid = with_part used (Some c.in-Some.part) c.next_part.new.intake in
    let s0 = g.S.Source.state c.args.source.now in
    let s1 = g.S.Source.state c.next_part.new.source in
    let began : TakesMore observable' (with_part used c.take-kept.result inside.intake) mid s0 s1 =
    takes_if _ observable' (with_part used c.take-kept.result inside.intake) mid s0 s1 (λ t. (t, tt))
    (rw c.in-Some.is at c.in_ok-part.ensures.takes) in
    let first : TakesMore observable' old mid s0 s1 =
    subst (λ (p : Option Part). TakesMore observable' (with_part used p inside.intake) mid s0 s1) c.take-kept.ensures.value
    began in
    let part = c.read_on.new.self in
    let now = c.read_on.new.intake in
    let text = part_text used part in
    let s2 = g.S.Source.state c.read_on.new.source in
    let second : TakesMore observable' mid (with_part used (Some part) now) s1 s2 =
    takes_if _ observable' mid (with_part used (Some part) now) s1 s2 (λ t. (t, tt)) c.in_default-read_on.ensures.takes in
    let both = takes_both observable' old mid (with_part used (Some part) now) s0 s1 s2 first second in
    let sum : used + length (text ++ now.ahead) ≡ now.taken =
    takes_sum observable' used old (with_part used (Some part) now) s0 s2 both
    (c.self.invariant.sum ∙ sym (with_part-taken used inside.part inside.intake)) in
    let parts = length-append text now.ahead in
    rw c.take-kept.ensures.after record {
      rules = λ x e. absurd (let f : ◌≡◌ {A = Option Part} None (Some x) = e in cc);
      sum = omega (arith, sum, parts, ap length c.ahead.ensures.bytes, c.taken.ensures.count);
      within = c.read_on.ensures.bound;
      kept = c.self.invariant.kept;
    }

pub returns-clause-answer : goal.returns-clause-answer
returns-clause-answer g c = λ observable.
    let observable' = g.S.Source.observable in
    let inside = c.self.inside in
    let used = inside.used in
    let old = with_part used inside.part inside.intake in
    let mid = with_part used (Some c.in-Some.part) c.next_part.new.intake in
    let s0 = g.S.Source.state c.args.source.now in
    let s1 = g.S.Source.state c.next_part.new.source in
    let began : TakesMore observable' (with_part used c.take-kept.result inside.intake) mid s0 s1 =
    takes_if _ observable' (with_part used c.take-kept.result inside.intake) mid s0 s1 (λ t. (t, tt))
    (rw c.in-Some.is at c.in_ok-part.ensures.takes) in
    let first : TakesMore observable' old mid s0 s1 =
    subst (λ (p : Option Part). TakesMore observable' (with_part used p inside.intake) mid s0 s1) c.take-kept.ensures.value
    began in
    let part = c.read_on.new.self in
    let now = c.read_on.new.intake in
    let text = part_text used part in
    let s2 = g.S.Source.state c.read_on.new.source in
    let second : TakesMore observable' mid (with_part used (Some part) now) s1 s2 =
    takes_if _ observable' mid (with_part used (Some part) now) s1 s2 (λ t. (t, tt)) c.in_default-read_on.ensures.takes in
    let both = takes_both observable' old mid (with_part used (Some part) now) s0 s1 s2 first second in
    let sum : used + length (text ++ now.ahead) ≡ now.taken =
    takes_sum observable' used old (with_part used (Some part) now) s0 s2 both
    (c.self.invariant.sum ∙ sym (with_part-taken used inside.part inside.intake)) in
    let parts = length-append text now.ahead in
    let own = c.into_offer.ensures.text used in
    let limit : now.limit ≡ inside.intake.limit = both.limit ∙ with_part-limit used inside.part inside.intake in
    rw (← c.self.view_is)
    (offer_within used inside.intake.limit text now.ahead s2.left (old.ahead ++ s0.left) c.into_offer.result
    c.into_offer.ensures.rules own (takes_same observable' old (with_part used (Some part) now) s0 s2 observable both)
    (omega (arith, sum, parts, c.read_on.ensures.bound, limit)))

pub returns-clause-stays : goal.returns-clause-stays
returns-clause-stays g c = λ none observable.
    let observable' = g.S.Source.observable in
    let inside = c.self.inside in
    let used = inside.used in
    let old = with_part used inside.part inside.intake in
    let mid = with_part used (Some c.in-Some.part) c.next_part.new.intake in
    let s0 = g.S.Source.state c.args.source.now in
    let s1 = g.S.Source.state c.next_part.new.source in
    let began : TakesMore observable' (with_part used c.take-kept.result inside.intake) mid s0 s1 =
    takes_if _ observable' (with_part used c.take-kept.result inside.intake) mid s0 s1 (λ t. (t, tt))
    (rw c.in-Some.is at c.in_ok-part.ensures.takes) in
    let first : TakesMore observable' old mid s0 s1 =
    subst (λ (p : Option Part). TakesMore observable' (with_part used p inside.intake) mid s0 s1) c.take-kept.ensures.value
    began in
    let part = c.read_on.new.self in
    let now = c.read_on.new.intake in
    let text = part_text used part in
    let s2 = g.S.Source.state c.read_on.new.source in
    let second : TakesMore observable' mid (with_part used (Some part) now) s1 s2 =
    takes_if _ observable' mid (with_part used (Some part) now) s1 s2 (λ t. (t, tt)) c.in_default-read_on.ensures.takes in
    let both = takes_both observable' old mid (with_part used (Some part) now) s0 s1 s2 first second in
    let sum : used + length (text ++ now.ahead) ≡ now.taken =
    takes_sum observable' used old (with_part used (Some part) now) s0 s2 both
    (c.self.invariant.sum ∙ sym (with_part-taken used inside.part inside.intake)) in
    let parts = length-append text now.ahead in
    let own = c.into_offer.ensures.text used in
    rw (← c.self.view_is)
    (rw c.take-kept.ensures.after
    (offer_used used text now.ahead s2.left (old.ahead ++ s0.left) c.into_offer.result own
    (takes_same observable' old (with_part used (Some part) now) s0 s2 observable both)))

pub returns-clause-used : goal.returns-clause-used
returns-clause-used g c =
    let observable' = g.S.Source.observable in
    let inside = c.self.inside in
    let used = inside.used in
    let old = with_part used inside.part inside.intake in
    let mid = with_part used (Some c.in-Some.part) c.next_part.new.intake in
    let s0 = g.S.Source.state c.args.source.now in
    let s1 = g.S.Source.state c.next_part.new.source in
    let began : TakesMore observable' (with_part used c.take-kept.result inside.intake) mid s0 s1 =
    takes_if _ observable' (with_part used c.take-kept.result inside.intake) mid s0 s1 (λ t. (t, tt))
    (rw c.in-Some.is at c.in_ok-part.ensures.takes) in
    let first : TakesMore observable' old mid s0 s1 =
    subst (λ (p : Option Part). TakesMore observable' (with_part used p inside.intake) mid s0 s1) c.take-kept.ensures.value
    began in
    let part = c.read_on.new.self in
    let now = c.read_on.new.intake in
    let text = part_text used part in
    let s2 = g.S.Source.state c.read_on.new.source in
    let second : TakesMore observable' mid (with_part used (Some part) now) s1 s2 =
    takes_if _ observable' mid (with_part used (Some part) now) s1 s2 (λ t. (t, tt)) c.in_default-read_on.ensures.takes in
    let both = takes_both observable' old mid (with_part used (Some part) now) s0 s1 s2 first second in
    let sum : used + length (text ++ now.ahead) ≡ now.taken =
    takes_sum observable' used old (with_part used (Some part) now) s0 s2 both
    (c.self.invariant.sum ∙ sym (with_part-taken used inside.part inside.intake)) in
    let parts = length-append text now.ahead in
    let own = c.into_offer.ensures.text used in
    rw (← c.self.view_is)
    (omega (arith, sum, parts, ap length own, ap length c.ahead.ensures.bytes, c.taken.ensures.count))

pub returns-clause-bound : goal.returns-clause-bound
returns-clause-bound g c =
    let observable' = g.S.Source.observable in
    let inside = c.self.inside in
    let used = inside.used in
    let old = with_part used inside.part inside.intake in
    let mid = with_part used (Some c.in-Some.part) c.next_part.new.intake in
    let s0 = g.S.Source.state c.args.source.now in
    let s1 = g.S.Source.state c.next_part.new.source in
    let began : TakesMore observable' (with_part used c.take-kept.result inside.intake) mid s0 s1 =
    takes_if _ observable' (with_part used c.take-kept.result inside.intake) mid s0 s1 (λ t. (t, tt))
    (rw c.in-Some.is at c.in_ok-part.ensures.takes) in
    let first : TakesMore observable' old mid s0 s1 =
    subst (λ (p : Option Part). TakesMore observable' (with_part used p inside.intake) mid s0 s1) c.take-kept.ensures.value
    began in
    let part = c.read_on.new.self in
    let now = c.read_on.new.intake in
    let text = part_text used part in
    let s2 = g.S.Source.state c.read_on.new.source in
    let second : TakesMore observable' mid (with_part used (Some part) now) s1 s2 =
    takes_if _ observable' mid (with_part used (Some part) now) s1 s2 (λ t. (t, tt)) c.in_default-read_on.ensures.takes in
    let both = takes_both observable' old mid (with_part used (Some part) now) s0 s1 s2 first second in
    let sum : used + length (text ++ now.ahead) ≡ now.taken =
    takes_sum observable' used old (with_part used (Some part) now) s0 s2 both
    (c.self.invariant.sum ∙ sym (with_part-taken used inside.part inside.intake)) in
    let parts = length-append text now.ahead in
    rw c.take-kept.ensures.after
    (omega (arith, sum, parts, ap length c.ahead.ensures.bytes, c.taken.ensures.count, c.read_on.ensures.bound))
