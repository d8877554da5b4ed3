-- The value of a request to change the feed that contracts see (RFC 5023 section 9).
use Rattle.std.specs.Prelude.{◌<◌, ◌^◌}
use Rattle.atom_values.specs.Entry.{IsDraft}
use Rattle.member_rules.specs.declared.ask.Ask.{Ask}
use Rattle.member_rules.specs.declared.ask.Ask.TheVariants.{Create, Replace, Delete, Change}
use Rattle.member_rules.specs.Setting.{IsSetting}

-- the rules that its types keep
abbrev pub IsAsk : Ask → Type 0
IsAsk (Create draft) = IsDraft draft
IsAsk (Replace number draft) = (number < 2 ^ 32) × IsDraft draft
IsAsk (Delete number) = number < 2 ^ 32
IsAsk (Change setting) = IsSetting setting
