use Rattle.std.proofs.Common.{[], ◌∷◌, sym, ap, ◌∙◌, codes}
use Rattle.entry_reader.specs.declared.fault.EarlyEnd.TheVariants.{Fault}
use Rattle.entry_reader.specs.declared.fault.Why.TheVariants.{Draft}
use Rattle.entry_reader.specs.Faults.{is_one_of, persons, single_parts}
use Rattle.xml_tokens.specs.Progress.{pending}
use Rattle.entry_reader.proofs.ChildLemmas.{no_list, part_stopped, stopped_read}
use Rattle.entry_reader.proofs.ControlLemmas.{says_draft, says_no_draft}
use Rattle.entry_reader.proofs.ItemLemmas.{beside_faultless, control_draft}
use Rattle.entry_reader.proofs.entry.control.Goals as goal

pub returns-in_err-is_draft-clause-read : goal.returns-in_err-is_draft-clause-read
returns-in_err-is_draft-clause-read c = λ from before e at of is.
    let old = c.args.elements.now in
    part_stopped old.length (pending old) from before e _ (Fault c.in_err-is_draft.field-0.0) c.from_residual.result
    c.is_draft.new.elements c.from_residual.ensures.1 (c.in_err-is_draft.ensures.read from at)

pub returns-then-branch-clause-read : goal.returns-then-branch-clause-read
returns-then-branch-clause-read c = λ from before e at of is.
    let old = c.args.elements.now in
    let x = c.in_ok-is_draft.ensures.read from at in
    stopped_read old.length (pending old) from before e c.args.control.now c.refused.result Draft x.0 x.1
    c.is_draft.new.elements x.2 x.3 of c.refused.ensures
    (control_draft before e x.0 (ap (is_one_of single_parts) is)
    (says_draft before e x.0 is (sym x.4 ∙ c.if-branch.true)))

pub returns-clause-read : goal.returns-clause-read
returns-clause-read c = λ from before e at of is.
    let x = c.in_ok-is_draft.ensures.read from at in
    let person = ap (is_one_of persons) is in
    let link = ap (is_one_of (codes "link" ∷ [])) is in
    let category = ap (is_one_of (codes "category" ∷ [])) is in (
      x.0,
      x.1,
      x.2,
      x.3,
      beside_faultless before e x.0 (ap (is_one_of single_parts) is) person
          (says_no_draft before e x.0 is (sym x.4 ∙ c.if-branch.false))
          (λ p. no_list before e x.0 person link category p) (λ p. no_list before e x.0 person link category p),
    )
