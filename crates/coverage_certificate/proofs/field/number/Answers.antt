use Rattle.std.proofs.Common.{◌≡◌, ℕ, true, false, Some, sym, ap, ◌∙◌, arith, inl, inr}
use Rattle.std.proofs.lemmas.Bool.{cases_lt}
use Rattle.std.proofs.lemmas.Slice.Eq.{bytes_eq-Decides}
use Rattle.std.proofs.Common.{decimal}
use Rattle.coverage_certificate.proofs.FieldLemmas.{zero_only, zero_text}
use Rattle.coverage_certificate.proofs.field.number.Goals as goal

pub returns-then-eq-clause-found : goal.returns-then-eq-clause-found
returns-then-eq-clause-found c =
    (omega arith, (bytes_eq-Decides _ _).0 (sym c.eq.ensures ∙ c.if-eq.true) ∙ c.as_slice.ensures ∙ sym zero_text)

pub returns-then-eq-clause-only : goal.returns-then-eq-clause-only
returns-then-eq-clause-only c = λ n small e.
    ap (λ (x : ℕ). Some x) (zero_only c.args.text.now n small
    ((bytes_eq-Decides _ _).0 (sym c.eq.ensures ∙ c.if-eq.true) ∙ c.as_slice.ensures) e)

pub returns-else-eq-clause-only : goal.returns-else-eq-clause-only
returns-else-eq-clause-only c = λ n small e.
    elim (cases_lt n 1) [
      | inl below ↦
          let zero : n ≡ 0 = omega arith in
          let same = e ∙ ap decimal zero ∙ zero_text ∙ sym c.as_slice.ensures in
          absurd (let h : true ≡ false = sym ((bytes_eq-Decides _ _).1 same) ∙ sym c.eq.ensures ∙ c.if-eq.false in cc)
      | inr some ↦ c.whole_number.ensures.only n some small e
    ]
