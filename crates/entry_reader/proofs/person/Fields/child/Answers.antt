use Rattle.std.proofs.Common.{sym, subst, ◌∙◌}
use Rattle.entry_reader.specs.Parts.{AreFieldsOf, IsFieldsChild, taken_fields}
use Rattle.xml_tokens.specs.Children.{with_child}
use Rattle.xml_tokens.specs.Progress.{pending}
use Rattle.entry_reader.proofs.FieldLemmas.{fields_taken, skip_child}
use Rattle.xml_tokens.proofs.ProgressLemmas.{err_is}
use Rattle.entry_reader.proofs.person.Fields.child.Goals as goal

pub returns-in_default-clause-read : goal.returns-in_default-clause-read
returns-in_default-clause-read c = λ from b e at are is.
    skip_child c.args.elements.now.length (pending c.args.elements.now) from b e c.args.self.now c.skip.new.self
    c.skip.result (c.skip.ensures.read from at) are (c.in_default.ensures e is)

pub returns-in_err-content-clause-read : goal.returns-in_err-content-clause-read
returns-in_err-content-clause-read c = λ from b e at are is.
    err_is (λ r. IsFieldsChild c.args.elements.now.length (pending c.args.elements.now) from b e r c.args.self.now
    c.content.new.self) c.in_err-content.field-0.0 c.from_residual.result c.from_residual.ensures.1
    (c.in_err-content.ensures.read from at)

pub returns-clause-read : goal.returns-clause-read
returns-clause-read c = λ from b e at are is.
    let x = c.in_ok-content.ensures.read from at in
    let content = c.in_ok-content.content in
    let taken = fields_taken c.in-Some.field b e x.0 c.args.self.now are (c.in-Some.ensures e is) in (
      x.0,
      x.1,
      x.2,
      x.3,
      subst (AreFieldsOf (with_child b e x.0))
          ((λ i. taken_fields c.in-Some.field (sym x.4 i) (sym x.5 i) (is.place i) c.args.self.now)
          ∙ sym c.in_ok-take.ensures)
          taken,
    )
