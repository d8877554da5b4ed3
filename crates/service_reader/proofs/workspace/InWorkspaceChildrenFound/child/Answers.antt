use Rattle.std.proofs.Common.{◌≡◌, ◌⊎◌, None, true, false, sym, ◌∙◌, inl, inr}
use Rattle.std.specs.Prelude.{codes, is_some}
use Rattle.xml_tokens.specs.Progress.{pending}
use Rattle.feed_reader.proofs.ChildrenLemmas.{rest_err}
use Rattle.feed_reader.proofs.FeedChildLemmas.{rest_skipped}
use Rattle.feed_reader.proofs.FeedMadeLemmas.{none_is}
use Rattle.feed_reader.proofs.FeedPartLemmas.{the_child}
use Rattle.service_reader.specs.Service.{is_app}
use Rattle.service_reader.proofs.ServiceAcceptLemmas.{accepted_takes}
use Rattle.service_reader.proofs.ServiceFoundLemmas.{workspace_more, workspace_skipped}
use Rattle.service_reader.proofs.workspace.InWorkspaceChildrenFound.child.Goals.{then-is_refused-via-then-is_refused}
use Rattle.service_reader.proofs.workspace.InWorkspaceChildrenFound.child.Goals.{then-is_refused-via-else-is_refused+then-not-is_app}
use Rattle.service_reader.proofs.workspace.InWorkspaceChildrenFound.child.Goals as goal

pub returns-then-is_refused-clause-read : goal.returns-then-is_refused-clause-read
returns-then-is_refused-clause-read c = λ from start b e at of h.
    let old = c.args.into.now in
    let why : (is_some old.refused ≡ true) ⊎ (is_app (codes "collection") e.name ≡ false) =
    elim c.then-is_refused.branch [
      | then-is_refused-via-then-is_refused w ↦ inl (sym c.is_refused.ensures ∙ w.if-is_refused.true)
      | then-is_refused-via-else-is_refused+then-not-is_app w ↦ inr (sym (w.is_app.ensures e of) ∙ w.if-not-is_app.true)
    ] in
    rest_skipped _ _ _ _ _ c.skip.result
    (λ inner. workspace_skipped c.args.self.now.address.now start old b e inner h why) (c.skip.ensures.read from at)

pub returns-in_err-read_children-clause-read : goal.returns-in_err-read_children-clause-read
returns-in_err-read_children-clause-read c = λ from start b e at of h.
    let old = c.args.elements.now in
    rest_err _ old.length (pending old) from c.read_children.new.elements c.in_err-read_children.field-0.0
    c.from_residual.result c.from_residual.ensures.1 (c.in_err-read_children.ensures.read from at)

pub returns-clause-read : goal.returns-clause-read
returns-clause-read c = λ from start b e at of h.
    let old = c.args.into.now in
    let address = c.args.self.now.address.now in
    let is : is_app (codes "collection") e.name ≡ true = sym (c.is_app.ensures e of) ∙ c.if-not-is_app.false in
    let none : old.refused ≡ None = none_is old.refused (sym c.is_refused.ensures ∙ c.if-is_refused.false) in
    let x = c.in_ok-read_children.ensures.read from at in
    let takes = c.entries.ensures ∙ accepted_takes e x.0 c.read_children.new.into x.4 in (
      x.0,
      x.1,
      x.2,
      x.3,
      workspace_more address start old b e x.0 c.add.new.self h is
          (λ seen found. c.in_ok-add.ensures address seen (the_child b e x.0) found none of.place
          (c.in_ok-href.ensures e of) takes),
    )
