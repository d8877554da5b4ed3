use Rattle.std.proofs.Common.{ap, sym, ◌∙◌, eq-eqb}
use Rattle.std.proofs.lemmas.Bool.{eqb-true}
use Rattle.archive_sealer.specs.Window.{WindowValue}
use Rattle.archive_sealer.proofs.WindowCountLemmas.{full-iff}
use Rattle.archive_sealer.proofs.window.Window.is_full.Goals as goal

pub returns : goal.returns
returns c head w =
    let inside = c.self.inside in
    let both = full-iff _ _ _ c.self.invariant.counts head c.args.self.now.history
    (w.first ∙ ap (λ (v : WindowValue). v.first) (sym c.self.view_is))
    (ap (λ (v : WindowValue). v.history) c.self.view_is) in (
      λ t. both.0 (eqb-true inside.count inside.size t),
      λ full. eq-eqb inside.count inside.size (both.1 full),
    )
