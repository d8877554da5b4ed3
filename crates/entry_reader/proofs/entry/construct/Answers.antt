use Rattle.std.proofs.Common.{refl, sym, ap, subst, ◌∙◌, Some, None, option_map}
use Rattle.entry_reader.specs.declared.fault.EarlyEnd.TheVariants.{Fault}
use Rattle.entry_reader.specs.declared.fault.Why.TheVariants.{Twice}
use Rattle.entry_reader.specs.Faults.{constructs, is_one_of, single_parts}
use Rattle.xml_tokens.specs.Progress.{pending}
use Rattle.entry_reader.specs.Parts.{IsConstructKind}
use Rattle.entry_reader.proofs.ChildLemmas.{all_of, no_some, part_stopped, refused_at, refuses_read, single_inside}
use Rattle.entry_reader.proofs.ChildLemmas.{single_own, single_twice, stopped_here}
use Rattle.entry_reader.proofs.ConstructLemmas.{construct_date, construct_read, construct_refused}
use Rattle.entry_reader.proofs.entry.construct.Goals as goal

pub returns-in-Err-clause-read : goal.returns-in-Err-clause-read
returns-in-Err-clause-read c = λ from before e at of is slot.
    let old = c.args.elements.now in
    let read = subst (IsConstructKind e) c.in-Err.is (c.in_ok-kind.ensures e of) in
    stopped_here old from before e c.args.child.now c.refused.result c.in-Err.why at of c.refused.ensures
    (λ inner. construct_refused before e inner is c.in-Err.why read)

pub returns-in_err-once-clause-read : goal.returns-in_err-once-clause-read
returns-in_err-once-clause-read c = λ from before e at of is slot.
    let old = c.args.elements.now in
    let stop = c.in_err-once.field-0.0 in
    let x = c.in_err-once.ensures in
    let read = subst (IsConstructKind e) c.in-Ok.is (c.in_ok-kind.ensures e of) in
    part_stopped old.length (pending old) from before e _ stop c.from_residual-in_err-once.result old
    c.from_residual-in_err-once.ensures.1
    (stopped_here old from before e c.args.child.now stop Twice at of x.1
    (λ inner. single_twice before e inner (all_of (is_one_of single_parts) constructs e.name is refl)
    (construct_read before e inner is c.in-Ok.kind read).0 (slot.0 x.0)))

pub returns-in_err-content-clause-read : goal.returns-in_err-content-clause-read
returns-in_err-content-clause-read c = λ from before e at of is slot.
    let old = c.args.elements.now in
    part_stopped old.length (pending old) from before e _ (Fault c.in_err-content.field-0.0)
    c.from_residual-in_err-content.result c.content.new.self c.from_residual-in_err-content.ensures.1
    (c.in_err-content.ensures.read from at)

pub returns-in-Some-clause-read : goal.returns-in-Some-clause-read
returns-in-Some-clause-read c = λ from before e at of is slot.
    let x = c.in_ok-content.ensures.read from at in
    let single = all_of (is_one_of single_parts) constructs e.name is refl in
    let read = subst (IsConstructKind e) c.in-Ok.is (c.in_ok-kind.ensures e of) in
    let own = single_own before e x.0 single (construct_read before e x.0 is c.in-Ok.kind read).0
    (slot.1 c.in_ok-once.ensures) (λ date none. construct_date before e x.0 is date) in
    let fault = ap (option_map refused_at) (sym x.5) ∙ sym c.in-Some.ensures in (
      x.1,
      x.2,
      refuses_read before e x.0 x.1 x.3 c.in-Some.at c.in-Some.why
          (single_inside before e x.0 single own (Some (c.in-Some.at, c.in-Some.why)) fault),
    )

pub returns-clause-read : goal.returns-clause-read
returns-clause-read c = λ from before e at of is slot.
    let x = c.in_ok-content.ensures.read from at in
    let single = all_of (is_one_of single_parts) constructs e.name is refl in
    let kind = construct_read before e x.0 is c.in-Ok.kind
    (subst (IsConstructKind e) c.in-Ok.is (c.in_ok-kind.ensures e of)) in
    let own = single_own before e x.0 single kind.0 (slot.1 c.in_ok-once.ensures)
    (λ date none. construct_date before e x.0 is date) in
    let none = ap (option_map refused_at) (sym x.5) ∙ sym c.inner_fault.ensures
    ∙ no_some c.inner_fault.result c.in_default.not-Some in
    let text = c.in_ok-text.ensures ∙ x.4 in (
      x.0,
      x.1,
      x.2,
      x.3,
      (λ i. Some (record { kind = kind.1 i; value = text i }), single_inside before e x.0 single own None none),
    )
