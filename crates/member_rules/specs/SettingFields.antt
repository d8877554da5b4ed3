-- The fields of an operation that sets a setting, in the order in which they are read.
use Rattle.std.specs.Prelude.{ℤ}
use Rattle.atom_writer.specs.Pieced.{Pieced}
use Rattle.member_rules.specs.Coding.{setting_fields}
use Rattle.member_rules.specs.FieldLists.{one, both}
use Rattle.member_rules.specs.Fields.{stamp}
use Rattle.member_rules.specs.Setting.{IsSetting}
use Rattle.member_rules.specs.declared.operation.Op.{Op}
use Rattle.member_rules.specs.declared.operation.Op.TheVariants.{Set}
use Rattle.member_rules.specs.declared.setting.Setting.{Setting}

-- settings, and the fields of each
unfoldable pub settings : Pieced Setting
settings = record { Is = IsSetting; pieces = setting_fields }

-- the moment, and the setting that holds from then on
abbrev pub sets : Pieced (ℤ × Setting)
sets = both (one stamp) (λ _. settings)

abbrev pub set_of : ℤ × Setting → Op
set_of s = Set s.1 s.0
