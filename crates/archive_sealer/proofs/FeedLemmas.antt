-- A window of a feed stays that feed's.
use Rattle.std.proofs.Common.{◌≡◌, ap, sym, ◌∙◌}
use Rattle.member_rules.specs.Head.{HeadValue}
use Rattle.archive_sealer.specs.Window.{IsOfFeed, WindowValue}

pub of_feed-same : (head : HeadValue) (window new : WindowValue) → new.first ≡ window.first → new.title ≡ window.title
    → IsOfFeed window head → IsOfFeed new head
of_feed-same head window new first title of = record { first = of.first ∙ sym first; title = of.title ∙ sym title }

-- the same of a window with other room
pub of_feed-room : (head : HeadValue) (window new : WindowValue) → new ≡ record window { spare = new.spare }
    → IsOfFeed window head → IsOfFeed new head
of_feed-room head window new same of =
    of_feed-same head window new (ap (λ (w : WindowValue). w.first) same) (ap (λ (w : WindowValue). w.title) same) of
