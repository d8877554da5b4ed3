use Rattle.std.proofs.Common.{◌&&◌, sym, ap, ◌∙◌, codes, not, bytes_eq}
use Rattle.atom_values.specs.Space.{trimmed}
use Rattle.xml_tokens.specs.Children.{text_of}
use Rattle.xml_tokens.specs.Progress.{pending}
use Rattle.entry_reader.specs.Parts.{IsDraftRead}
use Rattle.xml_tokens.proofs.ProgressLemmas.{err_is}
use Rattle.entry_reader.proofs.entry.says_draft.Goals as goal

pub returns-in_err-skip-clause-read : goal.returns-in_err-skip-clause-read
returns-in_err-skip-clause-read c = λ from e at of.
    let old = c.args.elements.now in
    err_is (λ r. IsDraftRead old.length (pending old) from e r c.skip.new.self) c.in_err-skip.field-0.0
    c.from_residual.result c.from_residual.ensures.1 (c.in_err-skip.ensures.read from at)

pub returns-then-not-is_app-clause-read : goal.returns-then-not-is_app-clause-read
returns-then-not-is_app-clause-read c = λ from e at of.
    let x = c.in_ok-skip.ensures.read from at in
    let other = sym c.if-not-is_app.true ∙ c.is_app.ensures e of in
    (x.0, x.1, x.2, x.3, ap (λ t. t && not (bytes_eq (trimmed (text_of x.0)) (codes "no"))) other)

pub returns-in_err-content-clause-read : goal.returns-in_err-content-clause-read
returns-in_err-content-clause-read c = λ from e at of.
    let old = c.args.elements.now in
    err_is (λ r. IsDraftRead old.length (pending old) from e r c.content.new.self) c.in_err-content.field-0.0
    c.from_residual-in_err-content.result c.from_residual-in_err-content.ensures.1
    (c.in_err-content.ensures.read from at)

pub returns-clause-read : goal.returns-clause-read
returns-clause-read c = λ from e at of.
    let x = c.in_ok-content.ensures.read from at in
    let named = sym c.if-not-is_app.false ∙ c.is_app.ensures e of in
    let text = c.trimmed.ensures ∙ ap trimmed x.4 in (
      x.0,
      x.1,
      x.2,
      x.3,
      c.ne.ensures ∙ ap (λ t. not (bytes_eq t (codes "no"))) text
          ∙ ap (λ t. t && not (bytes_eq (trimmed (text_of x.0)) (codes "no"))) named,
    )
