-- The ask of a line of `apply`.
use Rattle.std.specs.Prelude.{ℕ, ◌+◌, List, Option, option_map}
use Rattle.atom_values.specs.Entry.{titled}
use Rattle.member_rules.specs.declared.ask.Ask.{Ask}
use Rattle.member_rules.specs.declared.ask.Ask.TheVariants.{Create, Replace, Delete, Change as ChangeSetting}
use Rattle.member_rules.specs.declared.setting.Setting.TheVariants.{Title, Window}
use Rattle.tool_words.specs.Line as words
use Rattle.tool_words.specs.Line.{line_title_limit}
use Rattle.tool_words.specs.declared.line.LineAsk.{LineAsk}
use Rattle.tool_words.specs.declared.line.LineAsk.TheVariants.{Add, Change, Remove, Title as NewTitle, Window as NewWindow}

-- the ask of a good line: its draft, if it has one, has the line's title alone
abbrev pub ask_of : LineAsk → Ask
ask_of (Add title) = Create (titled title)
ask_of (Change number title) = Replace number (titled title)
ask_of (Remove number) = Delete number
ask_of (NewTitle title) = ChangeSetting (Title title)
ask_of (NewWindow size) = ChangeSetting (Window size)

-- the ask of a line; a bad line has none
unfoldable pub line_ask : List ℕ → Option Ask
line_ask line = option_map ask_of (words.line_ask line)

-- how many bytes of a line decide what it asks for: `change`, ten digits, two spaces and a title, and one byte more
abbrev pub prefix_limit : ℕ
prefix_limit = line_title_limit + 19
