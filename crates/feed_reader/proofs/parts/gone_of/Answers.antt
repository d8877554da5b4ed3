use Rattle.std.proofs.Common.{Some, refl, sym, ap, subst, ◌∙◌, inl, inr, option_map}
use Rattle.std.specs.Prelude.{ℤ}
use Rattle.atom_values.specs.DateText.{States}
use Rattle.atom_values.specs.Space.{trimmed}
use Rattle.feed_reader.specs.FeedFaults.{IsTooLong}
use Rattle.feed_reader.specs.FeedReading.{IsKept}
use Rattle.feed_reader.proofs.parts.gone_of.Goals as goal

pub returns-in_default-parse : goal.returns-in_default-parse
returns-in_default-parse c = λ e of.
    let id = sym (c.in_ok-id.ensures e.attributes of.attributes) ∙ ap (option_map (λ v. v.items)) c.in-Some.is in
    let date = sym (c.in_ok-date.ensures e.attributes of.attributes) ∙ ap (option_map (λ v. v.items)) c.in-Some-2.is in
    let text = c.trimmed.ensures ∙ ap trimmed c.as_slice.ensures.value in
    let bad : (z : ℤ) → States (trimmed c.in-Some-2.date.items) z → ⊥ = λ z s.
    c.in_default-parse.not-Some z ((c.parse.ensures.stated z).1 (subst (λ t. States t z) (sym text) s)) in
    inr (c.in-Some.id.items, c.in-Some-2.date.items, id, date, inl (bad, refl))

pub returns-in-Ok : goal.returns-in-Ok
returns-in-Ok c = λ e of.
    let id = sym (c.in_ok-id.ensures e.attributes of.attributes) ∙ ap (option_map (λ v. v.items)) c.in-Some.is in
    let date = sym (c.in_ok-date.ensures e.attributes of.attributes) ∙ ap (option_map (λ v. v.items)) c.in-Some-2.is in
    let text = c.trimmed.ensures ∙ ap trimmed c.as_slice.ensures.value in
    let states = subst (λ t. States t c.in-Some-parse.when) text
    ((c.in-Some-parse.ensures.stated c.in-Some-parse.when).0 refl) in
    let kept = subst (IsKept c.trimmed-2.result.now) c.in-Ok.is c.in_ok-id-2.ensures in
    let same = kept.0 ∙ c.trimmed-2.ensures ∙ ap trimmed c.as_slice-2.ensures.value in (
      λ inner. record {
        id = ap (option_map trimmed) id ∙ ap (λ t. Some t) (sym same);
        when = (c.in-Some-2.date.items, date, states);
      },
      record { id = kept.1; when = states.4 },
    )

pub returns : goal.returns
returns c = λ e of.
    let id = sym (c.in_ok-id.ensures e.attributes of.attributes) ∙ ap (option_map (λ v. v.items)) c.in-Some.is in
    let date = sym (c.in_ok-date.ensures e.attributes of.attributes) ∙ ap (option_map (λ v. v.items)) c.in-Some-2.is in
    let text = c.trimmed.ensures ∙ ap trimmed c.as_slice.ensures.value in
    let states = subst (λ t. States t c.in-Some-parse.when) text
    ((c.in-Some-parse.ensures.stated c.in-Some-parse.when).0 refl) in
    let kept = subst (IsKept c.trimmed-2.result.now) c.in-Err.is c.in_ok-id-2.ensures in
    let same = c.trimmed-2.ensures ∙ ap trimmed c.as_slice-2.ensures.value in
    inr (
      c.in-Some.id.items,
      c.in-Some-2.date.items,
      id,
      date,
      inr ((c.in-Some-parse.when, states), subst IsTooLong same kept.0, kept.1),
    )
