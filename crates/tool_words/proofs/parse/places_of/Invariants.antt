use Rattle.std.proofs.Common.{◌≡◌, map, take}
use Rattle.clap.specs.Words.{app_of}
use Rattle.tool_words.specs.Parse.{app_with, place_rule}
use Rattle.tool_words.specs.Reading.{names_of}
use Rattle.tool_words.proofs.parse.places_of.Given as goal

abbrev pub invariant-loop-name : goal.invariant-loop-name
invariant-loop-name l = app_of l.command ≡ app_with (map place_rule (names_of (take l.name-index l.names)))
