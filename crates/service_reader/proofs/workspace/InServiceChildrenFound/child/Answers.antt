use Rattle.std.proofs.Common.{◌≡◌, true, false, sym, ◌∙◌}
use Rattle.std.specs.Prelude.{codes}
use Rattle.feed_reader.proofs.FeedChildLemmas.{rest_skipped}
use Rattle.service_reader.specs.Service.{is_app}
use Rattle.service_reader.proofs.ServiceFoundLemmas.{rest_mapped, service_more, service_skipped}
use Rattle.service_reader.proofs.workspace.InServiceChildrenFound.child.Goals as goal

pub returns-then-is_app-clause-read : goal.returns-then-is_app-clause-read
returns-then-is_app-clause-read c = λ from start b e at of h.
    let is : is_app (codes "workspace") e.name ≡ true = sym (c.is_app.ensures e of) ∙ c.if-is_app.true in
    rest_mapped _ _ _ _ _ _ c.read_children.result
    (λ inner done read. service_more c.args.self.now.workspace.address.now start c.args.into.now b e inner
    c.read_children.new.into h is read)
    (c.read_children.ensures.read from at)

pub returns-else-is_app-clause-read : goal.returns-else-is_app-clause-read
returns-else-is_app-clause-read c = λ from start b e at of h.
    let other : is_app (codes "workspace") e.name ≡ false = sym (c.is_app.ensures e of) ∙ c.if-is_app.false in
    rest_skipped _ _ _ _ _ c.skip.result
    (λ inner. service_skipped c.args.self.now.workspace.address.now start c.args.into.now b e inner h other)
    (c.skip.ensures.read from at)
