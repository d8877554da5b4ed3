use Rattle.std.proofs.Common.{◌≡◌, ◌++◌, map, take}
use Rattle.clap.specs.Words.{app_of}
use Rattle.tool_words.specs.Parse.{app_with, flag_rule, option_rule}
use Rattle.tool_words.specs.Reading.{names_of}
use Rattle.tool_words.proofs.parse.command_of.Given as goal

abbrev pub invariant-loop-name : goal.invariant-loop-name
invariant-loop-name l = app_of l.command ≡ app_with (map option_rule (names_of (take l.name-index l.names)))

abbrev pub invariant-loop-flag : goal.invariant-loop-flag
invariant-loop-flag l =
    app_of l.command
    ≡ app_with (map option_rule (names_of l.names) ++ map flag_rule (names_of (take l.flag-index l.flags)))
