use Rattle.std.proofs.Common.{sym, ap, ◌∙◌, Some, None, option_map}
use Rattle.std.proofs.lemmas.Bool.{both_ways}
use Rattle.atom_values.specs.Space.{trimmed}
use Rattle.entry_reader.specs.declared.fault.EarlyEnd.TheVariants.{Fault}
use Rattle.entry_reader.specs.declared.fault.Why.TheVariants.{Twice}
use Rattle.entry_reader.specs.Faults.{constructs, dates, is_one_of, single_parts}
use Rattle.xml_tokens.specs.Progress.{pending}
use Rattle.entry_reader.proofs.ChildLemmas.{no_some, part_stopped, refused_at, refuses_read, single_inside}
use Rattle.entry_reader.proofs.ChildLemmas.{single_own, single_twice, stopped_here, untyped}
use Rattle.entry_reader.proofs.entry.Parts.id.Goals as goal

pub returns-in_err-once-clause-read : goal.returns-in_err-once-clause-read
returns-in_err-once-clause-read c = λ from before e at of is slot.
    let old = c.args.elements.now in
    let stop = c.in_err-once.field-0.0 in
    let x = c.in_err-once.ensures in
    part_stopped old.length (pending old) from before e _ stop c.from_residual.result old c.from_residual.ensures.1
    (stopped_here old from before e c.args.child.now stop Twice at of x.1
    (λ inner. single_twice before e inner (ap (is_one_of single_parts) is)
    (untyped before e inner (ap (is_one_of constructs) is)) (slot.0 x.0)))

pub returns-in_err-content-clause-read : goal.returns-in_err-content-clause-read
returns-in_err-content-clause-read c = λ from before e at of is slot.
    let old = c.args.elements.now in
    part_stopped old.length (pending old) from before e _ (Fault c.in_err-content.field-0.0)
    c.from_residual-in_err-content.result c.content.new.self c.from_residual-in_err-content.ensures.1
    (c.in_err-content.ensures.read from at)

pub returns-in-Some-clause-read : goal.returns-in-Some-clause-read
returns-in-Some-clause-read c = λ from before e at of is slot.
    let x = c.in_ok-content.ensures.read from at in
    let own = single_own before e x.0 (ap (is_one_of single_parts) is)
    (untyped before e x.0 (ap (is_one_of constructs) is)) (slot.1 c.in_ok-once.ensures)
    (λ date none. both_ways (is_one_of dates e.name) (ap (is_one_of dates) is) date) in
    let fault = ap (option_map refused_at) (sym x.5) ∙ sym c.in-Some.ensures in (
      x.1,
      x.2,
      refuses_read before e x.0 x.1 x.3 c.in-Some.at c.in-Some.why
          (single_inside before e x.0 (ap (is_one_of single_parts) is) own (Some (c.in-Some.at, c.in-Some.why)) fault),
    )

pub returns-clause-read : goal.returns-clause-read
returns-clause-read c = λ from before e at of is slot.
    let x = c.in_ok-content.ensures.read from at in
    let own = single_own before e x.0 (ap (is_one_of single_parts) is)
    (untyped before e x.0 (ap (is_one_of constructs) is)) (slot.1 c.in_ok-once.ensures)
    (λ date none. both_ways (is_one_of dates e.name) (ap (is_one_of dates) is) date) in
    let none = ap (option_map refused_at) (sym x.5) ∙ sym c.inner_fault.ensures
    ∙ no_some c.inner_fault.result c.in_default.not-Some in
    let text = c.in_ok-copied_text.ensures ∙ c.trimmed.ensures ∙ ap trimmed x.4 in (
      x.0,
      x.1,
      x.2,
      x.3,
      (
        λ i. record c.args.self.now { id = Some (text i) },
        single_inside before e x.0 (ap (is_one_of single_parts) is) own None none,
      ),
    )
