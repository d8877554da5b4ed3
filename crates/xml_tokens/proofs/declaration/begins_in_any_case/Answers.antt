use Rattle.std.proofs.Common.{◌∙◌, ap, length, take, drop, arith}
use Rattle.xml_tokens.proofs.EncodingNameLemmas.{begins_lower, lower_begins}
use Rattle.xml_tokens.proofs.declaration.begins_in_any_case.Goals as goal

pub returns-in-Some-clause-some : goal.returns-in-Some-clause-some
returns-in-Some-clause-some c = λ is.
    let front = c.args.front.now in
    let whole = c.args.whole.now in (
      drop (length front) whole,
      begins_lower front c.in-Some.begin.now whole
          (c.in-Some.ensures.lookup.0.2 ∙ ap (λ k. take k whole) (omega arith))
          (c.eq_ignore_ascii_case.ensures.test.0 is),
    )

pub returns-in-Some-clause-none : goal.returns-in-Some-clause-none
returns-in-Some-clause-none c = λ more e.
    let long = c.in-Some.ensures.lookup.0.3 in
    c.eq_ignore_ascii_case.ensures.test.1
    (lower_begins c.args.front.now c.in-Some.begin.now c.args.whole.now more
    (c.in-Some.ensures.lookup.0.2 ∙ ap (λ k. take k c.args.whole.now) (omega arith))
    (omega (arith, long)) e)
