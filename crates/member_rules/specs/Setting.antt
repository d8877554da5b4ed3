-- The settings of a feed that an operation changes. Each holds from that operation on.
use Rattle.std.specs.Prelude.{ℕ, ◌≤◌, List, length}
use Rattle.atom_values.specs.XmlText.{IsAtomText}
use Rattle.member_rules.specs.Head.{title_limit, window_limit}
use Rattle.member_rules.specs.declared.setting.Setting.{Setting}
use Rattle.member_rules.specs.declared.setting.Setting.TheVariants.{Title, Window}

-- a text that a feed's title may be
abbrev pub IsTitle : List ℕ → Type 0
IsTitle text = IsAtomText text × (length text ≤ title_limit)

-- a number of operations that a window may have
abbrev pub IsWindowSize : ℕ → Type 0
IsWindowSize size = (1 ≤ size) × (size ≤ window_limit)

-- the rules that its types keep
abbrev pub IsSetting : Setting → Type 0
IsSetting (Title title) = IsTitle title
IsSetting (Window size) = IsWindowSize size
