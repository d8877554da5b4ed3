use Rattle.std.proofs.Common.{Some, None, option_map, refl, sym, ap, subst, ◌∙◌}
use Rattle.std.specs.Prelude.{ℤ}
use Rattle.atom_values.specs.DateText.{States}
use Rattle.atom_values.specs.Space.{trimmed}
use Rattle.entry_reader.specs.declared.fault.EarlyEnd.TheVariants.{Fault}
use Rattle.entry_reader.specs.declared.fault.Why.TheVariants.{BadDate, Twice}
use Rattle.xml_tokens.specs.Children.{text_of}
use Rattle.entry_reader.specs.Faults.{constructs, dates, is_one_of, single_parts}
use Rattle.xml_tokens.specs.Progress.{pending}
use Rattle.entry_reader.proofs.ChildLemmas.{all_of, date_bad, no_some, none_of, part_stopped, refused_at, refuses_read}
use Rattle.entry_reader.proofs.ChildLemmas.{single_inside, single_own, single_twice, stopped_here, stopped_read}
use Rattle.entry_reader.proofs.ChildLemmas.{untyped}
use Rattle.entry_reader.proofs.entry.date.Goals as goal

pub returns-in_err-once-clause-read : goal.returns-in_err-once-clause-read
returns-in_err-once-clause-read c = λ from before e at of is slot.
    let old = c.args.elements.now in
    let stop = c.in_err-once.field-0.0 in
    let x = c.in_err-once.ensures in
    part_stopped old.length (pending old) from before e _ stop c.from_residual.result old c.from_residual.ensures.1
    (stopped_here old from before e c.args.child.now stop Twice at of x.1
    (λ inner. single_twice before e inner (all_of (is_one_of single_parts) dates e.name is refl)
    (untyped before e inner (none_of (is_one_of constructs) dates e.name is refl)) (slot.0 x.0)))

pub returns-in_err-content-clause-read : goal.returns-in_err-content-clause-read
returns-in_err-content-clause-read c = λ from before e at of is slot.
    let old = c.args.elements.now in
    part_stopped old.length (pending old) from before e _ (Fault c.in_err-content.field-0.0)
    c.from_residual-in_err-content.result c.content.new.self c.from_residual-in_err-content.ensures.1
    (c.in_err-content.ensures.read from at)

pub returns-in_default-clause-read : goal.returns-in_default-clause-read
returns-in_default-clause-read c = λ from before e at of is slot.
    let old = c.args.elements.now in
    let x = c.in_ok-content.ensures.read from at in
    let text = c.trimmed.ensures ∙ ap trimmed x.4 in
    let bad : (z : ℤ) → States (trimmed (text_of x.0)) z → ⊥ = λ z s.
    c.in_default.not-Some z ((c.parse.ensures.stated z).1 (subst (λ t. States t z) (sym text) s)) in
    stopped_read old.length (pending old) from before e c.args.child.now c.refused.result BadDate x.0 x.1
    c.content.new.self x.2 x.3 of c.refused.ensures
    (date_bad before e x.0 is (untyped before e x.0 (none_of (is_one_of constructs) dates e.name is refl))
    (slot.1 c.in_ok-once.ensures) bad)

pub returns-in-Some-inner_fault-clause-read : goal.returns-in-Some-inner_fault-clause-read
returns-in-Some-inner_fault-clause-read c = λ from before e at of is slot.
    let x = c.in_ok-content.ensures.read from at in
    let single = all_of (is_one_of single_parts) dates e.name is refl in
    let states : States (trimmed (text_of x.0)) c.in-Some.moment =
    subst (λ t. States t c.in-Some.moment) (c.trimmed.ensures ∙ ap trimmed x.4)
    ((c.in-Some.ensures.stated c.in-Some.moment).0 refl) in
    let own = single_own before e x.0 single
    (untyped before e x.0 (none_of (is_one_of constructs) dates e.name is refl)) (slot.1 c.in_ok-once.ensures)
    (λ date none. none c.in-Some.moment states) in
    let fault = ap (option_map refused_at) (sym x.5) ∙ sym c.in-Some-inner_fault.ensures in (
      x.1,
      x.2,
      refuses_read before e x.0 x.1 x.3 c.in-Some-inner_fault.at c.in-Some-inner_fault.why
          (single_inside before e x.0 single own (Some (c.in-Some-inner_fault.at, c.in-Some-inner_fault.why)) fault),
    )

pub returns-clause-read : goal.returns-clause-read
returns-clause-read c = λ from before e at of is slot.
    let x = c.in_ok-content.ensures.read from at in
    let single = all_of (is_one_of single_parts) dates e.name is refl in
    let states : States (trimmed (text_of x.0)) c.in-Some.moment =
    subst (λ t. States t c.in-Some.moment) (c.trimmed.ensures ∙ ap trimmed x.4)
    ((c.in-Some.ensures.stated c.in-Some.moment).0 refl) in
    let own = single_own before e x.0 single
    (untyped before e x.0 (none_of (is_one_of constructs) dates e.name is refl)) (slot.1 c.in_ok-once.ensures)
    (λ date none. none c.in-Some.moment states) in
    let none = ap (option_map refused_at) (sym x.5) ∙ sym c.inner_fault.ensures
    ∙ no_some c.inner_fault.result c.in_default-inner_fault.not-Some in (
      x.0,
      x.1,
      x.2,
      x.3,
      ((c.in-Some.moment, refl, states), single_inside before e x.0 single own None none),
    )
