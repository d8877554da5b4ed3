use Rattle.std.proofs.Common.{ap, sym, ◌∙◌}
use Rattle.archive_sealer.specs.Window.{WindowValue}
use Rattle.archive_sealer.proofs.WindowCountLemmas.{sealed-is}
use Rattle.archive_sealer.proofs.window.Window.sealed.Goals as goal

pub returns : goal.returns
returns c head w =
    sealed-is _ _ _ c.self.invariant.counts head c.args.self.now.history
    (w.first ∙ ap (λ (v : WindowValue). v.first) (sym c.self.view_is))
    (ap (λ (v : WindowValue). v.history) c.self.view_is)
