use Rattle.std.proofs.Common.{◌≡◌, true, false, Some, sym, ap, ◌∙◌}
use Rattle.std.proofs.lemmas.Slice.Eq.{bytes_eq-Decides}
use Rattle.atom_values.specs.Stamp.{printed}
use Rattle.atom_grammar.proofs.MomentLemmas.{is_stamp, not_none, read_same, shown}
use Rattle.atom_grammar.proofs.reader.printed_moment.Goals as goal

pub returns-in_err-moment-clause-only : goal.returns-in_err-moment-clause-only
returns-in_err-moment-clause-only c =
    λ z law e. absurd (not_none c.args.text.now z c.in_err-moment.ensures.stated law e)

pub returns-then-eq-clause-found : goal.returns-then-eq-clause-found
returns-then-eq-clause-found c = (
  is_stamp c.args.text.now c.in_ok-moment.moment c.in_ok-moment.ensures.stated,
  sym ((bytes_eq-Decides _ _).0 (sym c.eq.ensures ∙ c.if-eq.true))
      ∙ shown _ _ _ _ c.print-length.ensures.length c.print-length.ensures.text,
)

pub returns-then-eq-clause-only : goal.returns-then-eq-clause-only
returns-then-eq-clause-only c =
    λ z law e. ap (λ x. Some x)
    (read_same c.args.text.now c.in_ok-moment.moment z c.in_ok-moment.ensures.stated law e)

pub returns-else-eq-clause-only : goal.returns-else-eq-clause-only
returns-else-eq-clause-only c = λ z law e.
    let same = read_same c.args.text.now c.in_ok-moment.moment z c.in_ok-moment.ensures.stated law e in
    let texts = shown _ _ _ _ c.print-length.ensures.length c.print-length.ensures.text ∙ ap printed same ∙ sym e in
    absurd (let h : true ≡ false = sym ((bytes_eq-Decides _ _).1 texts) ∙ sym c.eq.ensures ∙ c.if-eq.false in cc)
