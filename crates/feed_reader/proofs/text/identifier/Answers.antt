use Rattle.std.proofs.Common.{ap, subst, ◌∙◌}
use Rattle.atom_values.specs.Space.{trimmed}
use Rattle.xml_tokens.specs.Progress.{pending}
use Rattle.feed_reader.specs.FeedReading.{IsFilled}
use Rattle.feed_reader.proofs.ChildrenLemmas.{rest_err}
use Rattle.feed_reader.proofs.text.identifier.Goals as goal

pub returns-in_err-content-clause-read : goal.returns-in_err-content-clause-read
returns-in_err-content-clause-read c = λ from at.
    let old = c.args.elements.now in
    rest_err _ old.length (pending old) from c.whole_content.new.self c.in_err-content.field-0.0 c.from_residual.result
    c.from_residual.ensures.1 (c.in_err-content.ensures.read from at)

pub returns-clause-read : goal.returns-clause-read
returns-clause-read c = λ from at.
    let x = c.in_ok-content.ensures.read from at in (
      x.0,
      x.1,
      x.2,
      x.3,
      subst (λ t. IsFilled c.args.slot.now c.fill.new.slot t c.in_ok-why.why)
          (c.trimmed.ensures ∙ ap trimmed x.4) c.in_ok-why.ensures,
    )
