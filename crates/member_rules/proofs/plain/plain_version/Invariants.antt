use Rattle.std.proofs.Common.{◌≡◌, take}
use Rattle.member_rules.specs.Fold.{last_naming}
use Rattle.member_rules.proofs.plain.plain_version.Given as goal

abbrev pub invariant-loop-at : goal.invariant-loop-at
invariant-loop-at l = l.version ≡ last_naming l.number (take l.at l.history)
