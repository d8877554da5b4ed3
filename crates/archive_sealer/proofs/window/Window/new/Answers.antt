use Rattle.std.proofs.Common.{[], ◌∙◌, refl, ap}
use Rattle.recency_list.specs.Recency.{RecencyValue}
use Rattle.archive_sealer.proofs.WindowLemmas.{IsKeptOf-none}
use Rattle.archive_sealer.proofs.window.Window.new.Goals as goal

pub invariant_of-result : goal.invariant_of-result
invariant_of-result c =
    let past = c.new-past.ensures in
    rw past (IsKeptOf-none _ c.args.size c.args.title [] c.requires refl refl refl refl refl refl refl
    c.in_ok-items.ensures.items
    (ap (λ (r : RecencyValue). r.list) c.in_ok-reserve.ensures.ok ∙ ap (λ (r : RecencyValue). r.list) c.new-order.ensures)
    refl)
