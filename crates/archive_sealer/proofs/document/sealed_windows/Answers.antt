use Rattle.std.proofs.Common.{ap, ◌∙◌}
use Rattle.member_rules.specs.Windows.{last_within, window_ends, windows_from, windows_of}
use Rattle.archive_sealer.proofs.document.sealed_windows.Goals as goal

pub returns : goal.returns
unfolding windows_of windows_from
returns c =
    c.last_place.ensures.last
    ∙ ap (λ n. last_within (window_ends c.args.head.now.window c.args.history.now) n n) c.saturating_sub.ensures
