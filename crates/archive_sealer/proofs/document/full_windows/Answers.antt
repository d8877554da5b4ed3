use Rattle.member_rules.specs.Windows.{windows_from, windows_of}
use Rattle.archive_sealer.proofs.document.full_windows.Goals as goal

pub returns : goal.returns
unfolding windows_of windows_from
returns c = c.last_place.ensures.last
