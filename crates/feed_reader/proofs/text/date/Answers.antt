use Rattle.std.proofs.Common.{◌≡◌, true, false, refl, sym, ap, subst, ◌∙◌, inl, inr, rules}
use Rattle.std.specs.Prelude.{is_some, ℤ}
use Rattle.atom_values.specs.DateText.{States}
use Rattle.atom_values.specs.Space.{trimmed}
use Rattle.xml_tokens.specs.Children.{whole_text_of}
use Rattle.xml_tokens.specs.Progress.{pending}
use Rattle.feed_reader.proofs.ChildrenLemmas.{rest_err}
use Rattle.feed_reader.proofs.text.date.Goals as goal

pub returns-in_err-content-clause-read : goal.returns-in_err-content-clause-read
returns-in_err-content-clause-read c = λ from at.
    let old = c.args.elements.now in
    rest_err _ old.length (pending old) from c.whole_content.new.self c.in_err-content.field-0.0 c.from_residual.result
    c.from_residual.ensures.1 (c.in_err-content.ensures.read from at)

pub returns-then-is_some-clause-read : goal.returns-then-is_some-clause-read
returns-then-is_some-clause-read c = λ from at.
    let x = c.in_ok-content.ensures.read from at in
    let full : is_some c.args.slot.now ≡ true = search rules in
    (x.0, x.1, x.2, x.3, inl (full, refl))

pub returns-in_default-clause-read : goal.returns-in_default-clause-read
returns-in_default-clause-read c = λ from at.
    let x = c.in_ok-content.ensures.read from at in
    let free : is_some c.args.slot.now ≡ false = search rules in
    let text = c.trimmed.ensures ∙ ap trimmed x.4 in
    let bad : (z : ℤ) → States (trimmed (whole_text_of x.0)) z → ⊥ = λ z s.
    c.in_default.not-Some z ((c.parse.ensures.stated z).1 (subst (λ t. States t z) (sym text) s)) in
    (x.0, x.1, x.2, x.3, inr (free, bad, refl))

pub returns-clause-read : goal.returns-clause-read
returns-clause-read c = λ from at.
    let x = c.in_ok-content.ensures.read from at in
    let free : is_some c.args.slot.now ≡ false = search rules in
    let text = c.trimmed.ensures ∙ ap trimmed x.4 in
    let states = subst (λ t. States t c.in-Some.moment) text ((c.in-Some.ensures.stated c.in-Some.moment).0 refl) in
    (x.0, x.1, x.2, x.3, (free, (c.in-Some.moment, refl, states)))
