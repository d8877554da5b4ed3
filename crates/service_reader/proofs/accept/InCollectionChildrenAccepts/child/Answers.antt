use Rattle.std.proofs.Common.{◌≡◌, ◌||◌, true, false, refl, sym, ap, ◌∙◌}
use Rattle.std.specs.Prelude.{codes}
use Rattle.atom_values.specs.Space.{trimmed}
use Rattle.xml_tokens.specs.Progress.{pending}
use Rattle.feed_reader.proofs.ChildrenLemmas.{rest_err}
use Rattle.feed_reader.proofs.FeedChildLemmas.{rest_skipped}
use Rattle.service_reader.specs.Service.{is_app, is_entry_type}
use Rattle.service_reader.proofs.ServiceAcceptLemmas.{accepted_more, accepted_other}
use Rattle.service_reader.proofs.accept.InCollectionChildrenAccepts.child.Goals as goal

pub returns-then-not-is_app-clause-read : goal.returns-then-not-is_app-clause-read
returns-then-not-is_app-clause-read c = λ from start b e at of h.
    let other : is_app (codes "accept") e.name ≡ false = sym (c.is_app.ensures e of) ∙ c.if-not-is_app.true in
    rest_skipped _ _ _ _ _ c.skip.result (λ inner. accepted_other b e inner c.args.into.now other h)
    (c.skip.ensures.read from at)

pub returns-in_err-content-clause-read : goal.returns-in_err-content-clause-read
returns-in_err-content-clause-read c = λ from start b e at of h.
    let old = c.args.elements.now in
    rest_err _ old.length (pending old) from c.whole_content.new.self c.in_err-content.field-0.0 c.from_residual.result
    c.from_residual.ensures.1 (c.in_err-content.ensures.read from at)

pub returns-clause-read : goal.returns-clause-read
returns-clause-read c = λ from start b e at of h.
    let old = c.args.into.now in
    let is : is_app (codes "accept") e.name ≡ true = sym (c.is_app.ensures e of) ∙ c.if-not-is_app.false in
    let x = c.in_ok-content.ensures.read from at in (
      x.0,
      x.1,
      x.2,
      x.3,
      accepted_more b e x.0 old _ is h refl
          (ap (λ k. old.entry || k)
          (c.is_entry_type.ensures ∙ ap is_entry_type (c.trimmed.ensures ∙ ap trimmed x.4))),
    )
