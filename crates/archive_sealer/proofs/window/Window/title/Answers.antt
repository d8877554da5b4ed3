use Rattle.std.proofs.Common.{◌≡◌, List, ℕ, ap, sym, ◌∙◌}
use Rattle.member_rules.specs.Documents.{name_of, title_after}
use Rattle.archive_sealer.specs.Window.{WindowValue}
use Rattle.archive_sealer.proofs.window.Window.title.Goals as goal

pub returns : goal.returns
unfolding name_of
returns c = λ head of_feed.
    let first : c.self.inside.past.title ≡ head.name.title =
    sym (of_feed.title ∙ ap (λ (v : WindowValue). v.title) (sym c.self.view_is)) in
    let history : c.self.inside.past.operations ≡ c.args.self.now.history =
    ap (λ (v : WindowValue). v.history) c.self.view_is in
    c.self.invariant.title ∙ (λ i. title_after (first i) (history i))
